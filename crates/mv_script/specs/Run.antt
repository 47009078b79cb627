-- The runs of a script, and the answers to its calls in a run.
use Rattle.std.specs.Prelude.{◌≡◌, ℕ, ◌+◌, ◌<◌, List, ◌∷◌, length, take, map, slice_get, Option, Some, None, option_and_then}
use Rattle.std.specs.List.{range_with_len}
use Rattle.mv_machine.specs.declared.entry.Entry.{Entry}
use Rattle.mv_machine.specs.declared.entry.Object.{Object}
use Rattle.mv_machine.specs.declared.entry.Object.TheVariants.{Ecb, Element}
use Rattle.mv_machine.specs.Parts.{Had}
use Rattle.mv_calls.specs.Keeping.{nothing_kept}
use Rattle.mv_calls.specs.Program.{Program, Do, Done, Heard}
use Rattle.mv_calls.specs.Runs.{FinishPrograms, heard_in, left_in}
use Rattle.mv_script.specs.declared.answer.Answer.{Answer}
use Rattle.mv_script.specs.declared.answer.Answer.TheVariants.{Moved}
use Rattle.mv_scriptline.specs.declared.call.Call.{Call}
use Rattle.mv_scriptline.specs.declared.call.Call.TheVariants as call
use Rattle.mv_script.specs.Costs.{zero_at, reset_at}
use Rattle.mv_script.specs.Script.{ScriptData}
use Rattle.mv_script.specs.Tasks.{Past, no_past, made_all, named_table, calls_at, Moves, task_program}

-- ---- words that were met

-- the object of a try, and the word that it expects there
abbrev pub try_target : Call → Option (Object × ℕ)
try_target (call.TryPost ecb place code) = Some (Ecb ecb, zero_at place)
try_target (call.TryRelease token place code) = Some (Element token.element, reset_at token.generation place)
try_target _ = None

-- how many of these observed events a program makes before it is done
abbrev pub taken_count : {A : Type 0} → Program A → List Heard → ℕ
taken_count (Do o op next) (h ∷ hs) = 1 + taken_count (next h) hs
taken_count p hs = 0

-- how many entries of a task's part of a history were made by the first i calls of the task
abbrev pub entries_before : ScriptData → Moves → List Entry → ℕ → ℕ → ℕ
entries_before script moves es k i =
    taken_count (made_all script.setup (named_table script.table) (moves k) no_past (take i (calls_at script k)) (nothing_kept k))
    (heard_in script.setup k es)

-- In this history, call i of task k is a try that read the word w of its object. It is not the expected word; and the object had
-- it after the entries on it of the task's earlier calls, and before those of its later ones.
pub record IsMet (script : ScriptData) (moves : Moves) (es : List Entry) (k i w : ℕ) : Type 0 where
  pub call : Call
  pub made : slice_get (calls_at script k) i ≡ Some call
  pub object : Object
  pub expected : ℕ
  pub tries : try_target call ≡ Some (object, expected)
  pub other : w ≡ expected → ⊥
  pub had : Had script.setup es k (entries_before script moves es k i) object w

-- ---- runs

-- A run of a script, in which tries read these other words: a legal history in which each entry is what its task's program does
-- next, and each task is done; and each of the words was met in it.
pub record IsScriptRun (script : ScriptData) (moves : Moves) (es : List Entry) : Type 0 where
  pub finish : FinishPrograms script.setup (task_program script moves) es
  pub met : (k i w : ℕ) → k < length script.tasks → moves k i ≡ Some w → IsMet script moves es k i w

-- ---- answers

-- what a task has when its program is done
abbrev pub past_in : Program Past → Past
past_in (Done past) = past
past_in _ = no_past

-- the answers to a task's calls, by the task's own part of the history and the words that its tries read
abbrev pub task_answers : ScriptData → Moves → List Entry → ℕ → List Answer
task_answers script moves es k = (past_in (left_in script.setup (task_program script moves) k es)).answers

-- the answers to the calls of all tasks
abbrev pub script_answers : ScriptData → Moves → List Entry → List (List Answer)
script_answers script moves es = map (task_answers script moves es) (range_with_len 0 (length script.tasks))

-- the answer to call i of task k, if there is one
abbrev pub answer_at : List (List Answer) → ℕ → ℕ → Option Answer
answer_at answers k i = option_and_then (λ task. slice_get task i) (slice_get answers k)

-- the word that an answer shows, if a try read another word than it expected
abbrev pub word_in : Answer → Option ℕ
word_in (Moved w) = Some w
word_in _ = None

-- the words that answers show
abbrev pub moves_in : List (List Answer) → Moves
moves_in answers k i = option_and_then word_in (answer_at answers k i)

-- the answer to a try: the other word that it read, if it did, and otherwise this answer
abbrev pub unless_moved : Option ℕ → Answer → Answer
unless_moved None a = a
unless_moved (Some w) a = Moved w
