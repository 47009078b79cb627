-- The law is none_wrong of results/NoneWrong.
use Rattle.mv_plan.proofs.deck.Planned.{planned}
use Rattle.mv_plan.proofs.results.NoneWrong.{none_wrong}
use Rattle.mv_plan.proofs.laws.no_task_goes_wrong.Goals as goal

pub returns : goal.returns
returns c = λ deck initiators es k some sound follows lt. none_wrong deck initiators some (planned deck initiators sound) es follows k lt
