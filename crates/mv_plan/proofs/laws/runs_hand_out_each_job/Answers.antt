-- The law is are_handed_out of results/HandedOut.
use Rattle.mv_plan.proofs.deck.Planned.{planned}
use Rattle.mv_plan.proofs.results.HandedOut.{are_handed_out}
use Rattle.mv_plan.proofs.laws.runs_hand_out_each_job.Goals as goal

pub returns : goal.returns
returns c = λ deck initiators es some sound run. are_handed_out deck initiators some (planned deck initiators sound) es run
