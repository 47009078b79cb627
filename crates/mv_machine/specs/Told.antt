-- What a caller was shown: the wakes of each of its events on the latch set.
use Rattle.std.specs.Prelude.{ℕ, ◌==◌, List, [], ◌∷◌, ◌++◌, if◌then◌else◌}
use Rattle.mv_latch.specs.declared.operation.Wake.{Wake}
use Rattle.mv_latch.specs.LatchSet.{wakes}
use Rattle.mv_machine.specs.declared.entry.Object.{Object}
use Rattle.mv_machine.specs.declared.entry.Object.TheVariants.{Latches}
use Rattle.mv_machine.specs.declared.entry.Op.{Op}
use Rattle.mv_machine.specs.declared.entry.Op.TheVariants as op_on
use Rattle.mv_machine.specs.declared.entry.Entry.{Entry}
use Rattle.mv_config.specs.Setup.{Setup}
use Rattle.mv_machine.specs.System.{System, opening}
use Rattle.mv_machine.specs.Legal.{next}

-- the wakes of one event, if it is an event of this caller on the latch set
abbrev pub told_at : System → ℕ → ℕ → Object → Op → List (List Wake)
told_at s me k Latches (op_on.Latch op) = if k == me then wakes k op s.latches.state ∷ [] else []
told_at s me k _ _ = []

-- the wakes of each event of this caller on the latch set in a list, in order
abbrev pub told_from : System → ℕ → List Entry → List (List Wake)
told_from s me [] = []
told_from s me (e ∷ es) = told_at s me e.caller e.object e.op ++ told_from (next s e) me es

-- the wakes that a caller was shown in a history, from the opening state on
abbrev pub told : Setup → ℕ → List Entry → List (List Wake)
told c me es = told_from (opening c) me es

-- the wakes that are shown after an event: its own wakes if it is an event on the latch set
abbrev pub shown_after : System → List Wake → ℕ → Object → Op → List Wake
shown_after s shown k Latches (op_on.Latch op) = wakes k op s.latches.state
shown_after s shown k _ _ = shown

-- the wakes of the last event on the latch set
abbrev pub last_wakes_from : System → List Wake → List Entry → List Wake
last_wakes_from s shown [] = shown
last_wakes_from s shown (e ∷ es) = last_wakes_from (next s e) (shown_after s shown e.caller e.object e.op) es

-- the wakes of the last event on the latch set in a history, or none if it has no such event
abbrev pub last_wakes : Setup → List Entry → List Wake
last_wakes c es = last_wakes_from (opening c) [] es
