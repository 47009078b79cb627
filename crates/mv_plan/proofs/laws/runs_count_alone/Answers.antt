-- The law is are_counted_alone of results.CountsAlone.
use Rattle.mv_plan.proofs.deck.Planned.{planned}
use Rattle.mv_plan.proofs.results.CountsAlone.{are_counted_alone}
use Rattle.mv_plan.proofs.laws.runs_count_alone.Goals as goal

pub returns : goal.returns
returns c = λ deck initiators es some sound run. are_counted_alone deck initiators some (planned deck initiators sound) es run
