-- The answers to calls on a script's table of events in a run: events are handed out once each, in the order of completion.
use Rattle.std.specs.Prelude.{◌≡◌, ℕ, ◌+◌, ◌<◌, List, [], ◌∷◌, length, slice_get, slice_index_or, Some}
use Rattle.std.specs.List.{Contains}
use Rattle.mv_ecb.specs.Word.{completion_bit}
use Rattle.mv_machine.specs.declared.entry.Entry.{Entry}
use Rattle.mv_calls.specs.declared.table.Table.{Table}
use Rattle.mv_eventlaws.specs.Completions.{Completion, completions}
use Rattle.mv_eventlaws.specs.Order.{ShowsCompletions}
use Rattle.mv_script.specs.declared.answer.Answer.{Answer}
use Rattle.mv_script.specs.declared.answer.Answer.TheVariants as answer
use Rattle.mv_scriptline.specs.declared.call.Call.{Call}
use Rattle.mv_scriptline.specs.declared.call.Call.TheVariants as call
use Rattle.mv_script.specs.Script.{ScriptData}
use Rattle.mv_script.specs.Sound.{IfThere}
use Rattle.mv_script.specs.Tasks.{calls_at}

-- A post of an event has this answer, if `done` are the completions of the table's events. A position says that the completion
-- there is that of the event, with the post's code; a code says that the event had been complete with it. The only other answer
-- is Quota.
abbrev pub IsEntered : List Completion → (index code : ℕ) → Answer → Type 0
IsEntered done index code (answer.Entered position) = slice_get done position ≡ Some (record { index = index; code = code })
IsEntered done index code (answer.AlreadyPosted old) = Contains done (record { index = index; code = old })
IsEntered done index code answer.Quota = Unit {0}
IsEntered done index code a = ⊥

-- The next event at this position has this answer. An event is the completion there, with the complete word of its code. The only
-- other answers say that the task is not the table's owner, or that the table has no such position.
abbrev pub ReportsEvent : List Completion → (position : ℕ) → Answer → Type 0
ReportsEvent done position (answer.Event index word) =
    (x : Completion) × (slice_get done position ≡ Some x) × (index ≡ x.index) × (word ≡ completion_bit + x.code)
ReportsEvent done position answer.NotOwner = Unit {0}
ReportsEvent done position answer.Drained = Unit {0}
ReportsEvent done position a = ⊥

-- if a call is one on the table, its answer is such a one
abbrev pub IsToldInOrder : List Completion → Call → Answer → Type 0
IsToldInOrder done (call.PostEvent index code) a = IsEntered done index code a
IsToldInOrder done (call.NextEvent position) a = ReportsEvent done position a
IsToldInOrder done c a = Unit {0}

-- there is one answer for each of the calls, and it is such a one
abbrev pub AreToldInOrder : List Completion → List Call → List Answer → Type 0
AreToldInOrder done [] [] = Unit {0}
AreToldInOrder done (c ∷ calls) (a ∷ answers) = IsToldInOrder done c a × AreToldInOrder done calls answers
AreToldInOrder done calls answers = ⊥

-- In a history of a script with table t, the completions determine the answer to each call on the table (`told`), and the table's
-- volume, slots and events show them (`shown`), which are listed in the order of the posts that made them.
pub record AreHandedOut (script : ScriptData) (answers : List (List Answer)) (es : List Entry) (t : Table) : Type 0 where
  pub told : (k : ℕ) → k < length script.tasks
      → AreToldInOrder (completions t es) (calls_at script k) (slice_index_or answers k [])
  pub shown : ShowsCompletions script.setup t es

-- the events of the script's table are handed out, if it has one
abbrev pub EventsAreHandedOut : ScriptData → List (List Answer) → List Entry → Type 0
EventsAreHandedOut script answers es = IfThere (AreHandedOut script answers es) script.table
