-- The law is undoomed_extends of Undoomed.
use Rattle.mv_plan.proofs.deck.Planned.{planned}
use Rattle.mv_progress.proofs.Undoomed.{undoomed_extends}
use Rattle.mv_progress.proofs.laws.histories_extend_to_runs.Goals as goal

pub returns : goal.returns
returns c = λ deck initiators es some sound w. undoomed_extends deck initiators some (planned deck initiators sound) es w
