-- The law is undoomed_continues and any_event of Undoomed.
use Rattle.mv_plan.proofs.deck.Planned.{planned}
use Rattle.mv_progress.proofs.Undoomed.{undoomed_continues, any_event}
use Rattle.mv_progress.proofs.laws.no_history_deadlocks.Goals as goal

pub returns-clause-next : goal.returns-clause-next
returns-clause-next c = λ deck initiators es some sound w. undoomed_continues deck initiators some (planned deck initiators sound) es w

pub returns-clause-any : goal.returns-clause-any
returns-clause-any c = λ deck initiators es e some sound w follows timely.
    any_event deck initiators some (planned deck initiators sound) es e w follows timely
