-- What the tasks of a script have done, while some of them may have calls left.
use Rattle.std.specs.Prelude.{◌≡◌, ℕ, ◌<◌, ◌≤◌, false, List, [], ◌++◌, All, length, take, slice_get, slice_index_or, Option, Some, None}
use Rattle.std.specs.Prelude.{option_and_then}
use Rattle.std.specs.List.{AllByRecursion}
use Rattle.mv_calls.specs.Keeping.{Kept, kept_of, nothing_kept}
use Rattle.mv_calls.specs.Program.{Heard, IsDoneOn, Says, entries}
use Rattle.mv_calls.specs.Runs.{heard_in}
use Rattle.mv_calls.specs.declared.table.Table.{Table}
use Rattle.mv_config.specs.Check.{IsValid}
use Rattle.mv_machine.specs.Legal.{Legal, after}
use Rattle.mv_config.specs.Limits.{events_limit, highest_place}
use Rattle.mv_machine.specs.Orderly.{IsOrderly}
use Rattle.mv_config.specs.Setup.{Setup}
use Rattle.mv_machine.specs.State.{IsOpenedWith, system_of}
use Rattle.mv_machine.specs.declared.entry.Entry.{Entry}
use Rattle.mv_pollscript.specs.Standing.{can_go_on, standing_in}
use Rattle.mv_pollscript.specs.declared.run.RunSoFar.{RunSoFar}
use Rattle.mv_script.specs.Run.{word_in}
use Rattle.mv_script.specs.Script.{ScriptData}
use Rattle.mv_script.specs.Tasks.{Past, no_past, named_table, made, made_all, calls_at}
use Rattle.mv_script.specs.declared.answer.Answer.{Answer}
use Rattle.mv_scriptline.specs.declared.call.Call.{Call}

-- the unexpected word that a call of a task read, by the task's answers
abbrev pub words_in : List Answer → ℕ → Option ℕ
words_in answers j = option_and_then word_in (slice_get answers j)

-- these are the first events of a task's next call, perhaps none of them; a task without one makes none
abbrev pub Begins : Setup → Option Table → Past → Kept → Option Call → List Heard → Type 0
Begins c table past kept None begun = begun ≡ []
Begins c table past kept (Some call) begun = Says (made c (named_table table) None past call kept) begun

-- In this history task k has made its first calls, as many as there are answers, with these answers; after that it has made the first
-- events of its next call, perhaps none, and no others.
pub record HasGotTo (script : ScriptData) (es : List Entry) (k : ℕ) (answers : List Answer) : Type 0 where
  pub past : Past
  pub done : List Heard
  pub begun : List Heard
  pub events : heard_in script.setup k es ≡ done ++ begun
  pub few : length answers ≤ length (calls_at script k)
  pub calls : IsDoneOn (made_all script.setup (named_table script.table) (words_in answers) no_past
      (take (length answers) (calls_at script k)) (nothing_kept k)) done past
  pub answered : past.answers ≡ answers
  pub next : Begins script.setup script.table past (kept_of k (entries done)) (slice_get (calls_at script k) (length answers)) begun

-- The outcome is that of a run of the script that may have ended before its tasks did. Its events are legal in the script's
-- configuration, its state is the one after them, and each task has got to the call after those that have an answer.
pub record IsRunSoFar (script : ScriptData) (r : RunSoFar) : Type 0 where
  pub config : r.config ≡ script.setup
  pub valid : IsValid script.setup
  pub legal : Legal script.setup r.journal.items
  pub callers : AllByRecursion (λ e. e.caller < length script.tasks) r.journal.items
  pub orderly : IsOrderly script.setup r.journal.items
  pub state : system_of r.state ≡ after script.setup r.journal.items
  pub opened : IsOpenedWith script.setup r.state
  pub lists : length r.answers.items ≡ length script.tasks
  pub tasks : (k : ℕ) → k < length script.tasks → HasGotTo script r.journal.items k (slice_index_or r.answers.items k [])
  pub few : length r.journal.items ≤ events_limit
  pub places : All (λ e. e.place ≤ highest_place) r.journal.items

-- No task can go on in the state that the run left: each has made all of its calls, waits in its next call, or stops before it.
abbrev pub IsQuiescent : ScriptData → RunSoFar → Type 0
IsQuiescent script r =
    (k : ℕ) → k < length script.tasks → can_go_on (standing_in (system_of r.state) script.tasks r.answers.items k) ≡ false
