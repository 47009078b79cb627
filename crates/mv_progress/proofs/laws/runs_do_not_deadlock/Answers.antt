-- The law is run_cannot_deadlock of Undoomed.
use Rattle.mv_plan.proofs.deck.Planned.{planned}
use Rattle.mv_progress.proofs.Undoomed.{run_cannot_deadlock}
use Rattle.mv_progress.proofs.laws.runs_do_not_deadlock.Goals as goal

pub returns : goal.returns
returns c = λ deck initiators es before later some sound run split.
    run_cannot_deadlock deck initiators some (planned deck initiators sound) es before later run split
