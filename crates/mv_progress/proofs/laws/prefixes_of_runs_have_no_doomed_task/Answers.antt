-- The law is prefix_is_undoomed of Undoomed.
use Rattle.mv_progress.proofs.Undoomed.{prefix_is_undoomed}
use Rattle.mv_progress.proofs.laws.prefixes_of_runs_have_no_doomed_task.Goals as goal

pub returns : goal.returns
returns c = λ deck initiators es rest some sound run. prefix_is_undoomed deck initiators es rest run
