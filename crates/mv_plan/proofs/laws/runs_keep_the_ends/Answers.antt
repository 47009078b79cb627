-- The law is writer_keeps of results/EndsPosted.
use Rattle.mv_plan.proofs.deck.Planned.{planned}
use Rattle.mv_plan.proofs.results.EndsPosted.{writer_keeps}
use Rattle.mv_plan.proofs.laws.runs_keep_the_ends.Goals as goal

pub returns : goal.returns
returns c = λ deck initiators es some sound run. writer_keeps deck initiators some (planned deck initiators sound) es run
