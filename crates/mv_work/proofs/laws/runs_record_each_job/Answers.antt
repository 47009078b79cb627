-- The law is are_recorded of brought/Recorded.
use Rattle.mv_plan.proofs.deck.Planned.{planned}
use Rattle.mv_work.proofs.brought.Recorded.{are_recorded}
use Rattle.mv_work.proofs.laws.runs_record_each_job.Goals as goal

pub returns : goal.returns
returns c = λ deck initiators es records some sound run brought.
    are_recorded deck initiators some (planned deck initiators sound) es run records brought
