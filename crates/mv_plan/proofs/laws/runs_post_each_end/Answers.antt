-- The law is ends_are_posted of results/EndsPosted.
use Rattle.mv_plan.proofs.deck.Planned.{planned}
use Rattle.mv_plan.proofs.results.EndsPosted.{ends_are_posted}
use Rattle.mv_plan.proofs.laws.runs_post_each_end.Goals as goal

pub returns : goal.returns
returns c = λ deck initiators es some sound run. ends_are_posted deck initiators some (planned deck initiators sound) es run
