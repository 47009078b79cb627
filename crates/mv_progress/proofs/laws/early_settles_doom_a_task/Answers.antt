-- The law is undoomed_iff_timely of Undoomed.
use Rattle.mv_plan.proofs.deck.Planned.{planned}
use Rattle.mv_progress.proofs.Undoomed.{undoomed_iff_timely}
use Rattle.mv_progress.proofs.laws.early_settles_doom_a_task.Goals as goal

pub returns : goal.returns
returns c = λ deck initiators es some sound follows. undoomed_iff_timely deck initiators some (planned deck initiators sound) es follows
