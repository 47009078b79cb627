-- The line of an event in a journal of version 1, and the status of writing it: 0 written, 3 no such event, 6 no room, 7 out of memory.
use Rattle.std.specs.Prelude.{◌≡◌, ℕ, ◌<◌, ◌⊎◌, List, ◌++◌, length, drop, Option, Some, None, option_map, option_and_then}
use Rattle.mv_machine.specs.declared.entry.Entry.{Entry}
use Rattle.mv_machine.specs.declared.entry.Object.{Object}
use Rattle.mv_machine.specs.declared.entry.Op.{Op}
use Rattle.mv_machine.specs.declared.entry.Reply.{Reply}
use Rattle.mv_machine.specs.Legal.{IsNext}
use Rattle.mv_config.specs.Setup.{Setup}
use Rattle.mv_machine.specs.System.{System, answer}
use Rattle.mv_entrytext.specs.Journal.{EntryOf, line}
use Rattle.mv_oracle.specs.declared.answer.Answer.{Answer}
use Rattle.mv_oracle.specs.declared.operation.Operation.{Operation}
use Rattle.mv_oracle.specs.Answer.{answer_of}
use Rattle.mv_oracle.specs.Operation.{request_of}
use Rattle.mv_oracle.specs.Reply.{reply_of}

-- the entry of these parts
abbrev pub entry_with : (caller : ℕ) → Object → (place : ℕ) → Op → Reply → Entry
entry_with caller object place op reply = record { caller = caller; object = object; place = place; op = op; reply = reply }

-- the entry of an operation and its answer, if each number has a meaning
abbrev pub entry_of : Operation → Answer → Option Entry
entry_of x a =
    option_and_then (λ r. option_map (λ reply. entry_with x.caller r.0 a.place r.1 reply) (reply_of r.0 a)) (request_of x)

-- the line of an entry, with its LF and without a call number
abbrev pub line_of : Entry → List ℕ
line_of e = line (EntryOf None e)

-- the text is at the front of the room and the rest is as before; or the room is too small; or memory ran out
abbrev pub IsWritten : (text : List ℕ) (status : ℕ) (before after : List ℕ) (count : ℕ) → Type 0
IsWritten text status before after count =
    ((status ≡ 0) × (count ≡ length text) × (after ≡ text ++ drop (length text) before))
    ⊎ (((status ≡ 6) × (length before < length text)) ⊎ (status ≡ 7))

-- the line was written, if there is such an entry
abbrev pub IsLine : Option Entry → (status : ℕ) (before after : List ℕ) (count : ℕ) → Type 0
IsLine (Some e) status before after count = IsWritten (line_of e) status before after count
IsLine None status before after count = status ≡ 3

-- if a machine makes the operation with this answer, the entry is the machine's next one
abbrev pub IsNextOf : Operation → Answer → Type 0
IsNextOf x a =
    (c : Setup) (s : System) (o : Object) (op : Op) (place : ℕ) (reply : Reply) → request_of x ≡ Some (o, op)
    → answer c s x.caller o op ≡ Some (place, reply) → a ≡ answer_of place reply
    → (entry_of x a ≡ Some (entry_with x.caller o place op reply)) × IsNext c s (entry_with x.caller o place op reply)
