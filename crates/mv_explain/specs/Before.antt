-- What there was before an event: the state of its object, and the last events on it.
use Rattle.std.specs.Prelude.{ℕ, zero, suc, ◌+◌, nat_lt, Bool, false, List, [], ◌++◌, slice_get, codes, decimal, Option, Some, None}
use Rattle.std.specs.Prelude.{if◌then◌else◌}
use Rattle.mv_ecb.specs.declared.operation.EcbOp.TheVariants as ecb_op
use Rattle.mv_element.specs.declared.operation.ElementOp.TheVariants as element_op
use Rattle.mv_machine.specs.declared.entry.Entry.{Entry}
use Rattle.mv_machine.specs.declared.entry.Object.{Object}
use Rattle.mv_machine.specs.declared.entry.Object.TheVariants.{Ecb, Element, Volume, Latches}
use Rattle.mv_machine.specs.declared.entry.Op.{Op}
use Rattle.mv_machine.specs.declared.entry.Op.TheVariants as op_on
use Rattle.mv_machine.specs.declared.entry.Reply.{Reply}
use Rattle.mv_machine.specs.declared.entry.VolumeOp.TheVariants.{Read}
use Rattle.mv_machine.specs.Legal.{after, same_object}
use Rattle.mv_config.specs.Limits.{highest_place}
use Rattle.mv_config.specs.Setup.{Setup}
use Rattle.mv_machine.specs.System.{System, answer, place_of}
use Rattle.mv_entrytext.specs.Journal.{EntryOf, line}
use Rattle.mv_explain.specs.declared.sentences.TheConstants.{AT, STATE}
use Rattle.mv_explain.specs.LatchState.{latch_of, latch_text}

-- ---- the last events on an object

-- there is an event, and it is on this object
abbrev pub is_on : Object → Option Entry → Bool
is_on o None = false
is_on o (Some e) = same_object e.object o

-- the last of the first `n` events that is on this object
abbrev pub last_below : List Entry → Object → ℕ → Option ℕ
last_below es o zero = None
last_below es o (suc k) = if is_on o (slice_get es k) then Some k else last_below es o k

-- an event with the number of its line
abbrev pub event_text : ℕ → Entry → List ℕ
event_text number e = (AT.now ++ decimal number) ++ codes ": " ++ line (EntryOf None e)

-- the event at a place, if there is one, where the first is on this line
abbrev pub event_at : (first at : ℕ) → Option Entry → List ℕ
event_at first at None = []
event_at first at (Some e) = event_text (first + at) e

-- the text for an event, if there is one
abbrev pub from_last : Option ℕ → (ℕ → List ℕ) → List ℕ
from_last None text = []
from_last (Some at) text = text at

-- the last of the first `below` events that are on this object: at most `most` of them
abbrev pub earlier_text : (first : ℕ) → List Entry → Object → (below most : ℕ) → List ℕ
earlier_text first es o below zero = []
earlier_text first es o below (suc most) =
    from_last (last_below es o below) (λ at. earlier_text first es o at most ++ event_at first at (slice_get es at))

-- ---- the state of an object

-- the operation that shows an object's state and leaves it as it is; the latch set has none
abbrev pub look_at : Object → Option Op
look_at (Ecb n) = Some (op_on.Ecb ecb_op.Test)
look_at (Element n) = Some (op_on.Element element_op.Test)
look_at (Volume n) = Some (op_on.Volume Read)
look_at Latches = None

-- what the machine answers to such a look
unfoldable pub seen_text : Entry → Op → ℕ × Reply → List ℕ
seen_text e op a = STATE.now ++ line (EntryOf None (record e { place = a.0; op = op; reply = a.1 }))

-- the same, if it answers
unfoldable pub look_answer_text : Entry → Op → Option (ℕ × Reply) → List ℕ
look_answer_text e op None = []
look_answer_text e op (Some a) = seen_text e op a

-- what a look at the object of an event shows in this system; nothing after the last place
abbrev pub look_text : Setup → System → Entry → Op → List ℕ
look_text c s e op =
    if nat_lt highest_place (place_of s e.object) then [] else look_answer_text e op (answer c s e.caller e.object op)

-- the same, if the object has such an operation
unfoldable pub looked_text : Setup → System → Entry → Option Op → List ℕ
looked_text c s e None = []
looked_text c s e (Some op) = look_text c s e op

-- the state that the object of an event has in this system; of the latch set, the requests of the event's latch
unfoldable pub object_text : Setup → System → Entry → List ℕ
object_text c s e = latch_text c s (latch_of e.op) ++ looked_text c s e (look_at e.object)

-- the same after these events
unfoldable pub state_text : Setup → List Entry → Entry → List ℕ
state_text c before e = object_text c (after c before) e
