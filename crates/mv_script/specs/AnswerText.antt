-- The text of the answers, a line for each call of all tasks in order; and the answers that it determines.
use Rattle.std.specs.Prelude.{ℕ, ◌+◌, ◌/◌, ◌%◌, ◌^◌, ◌<◌, List, [], ◌∷◌, ◌++◌, All, flat_map, length, codes, decimal}
use Rattle.mv_element.specs.declared.element.Phase.{Phase}
use Rattle.mv_element.specs.declared.element.Phase.TheVariants.{Free, Reset, Prereleased, Paused, Released}
use Rattle.mv_element.specs.declared.element.Token.{Token}
use Rattle.mv_calls.specs.declared.outcomes.WaitSlot.{WaitSlot}
use Rattle.mv_calls.specs.declared.outcomes.WaitSlot.TheVariants as slot
use Rattle.mv_script.specs.declared.answer.Answer.{Answer}
use Rattle.mv_script.specs.declared.answer.Answer.TheVariants as answer

-- a word, and a number after it
abbrev pub word_and : List ℕ → ℕ → List ℕ
word_and word n = word ++ codes " " ++ decimal n

-- the text of a block of a wait: its code, or that it is open
abbrev pub slot_text : WaitSlot → List ℕ
slot_text (slot.Complete code) = codes " C" ++ decimal code
slot_text slot.Open = codes " O"

-- the text of a token
abbrev pub token_text : Token → List ℕ
token_text t = decimal t.element ++ codes "." ++ decimal t.generation

-- the text of a phase
abbrev pub phase_text : Phase → List ℕ
phase_text Free = codes "FREE"
phase_text Reset = codes "RESET"
phase_text Prereleased = codes "PRERELEASED"
phase_text Paused = codes "PAUSED"
phase_text Released = codes "RELEASED"

-- each answer, one line for each variant; a word that was met is shown as its place and its state, which has the lower 45 bits
abbrev pub answer_text : Answer → List ℕ
answer_text (answer.Waited slots) = codes "WAITED" ++ flat_map slot_text slots
answer_text answer.TooMany = codes "TOOMANY"
answer_text (answer.Doubled position) = word_and (codes "DOUBLED") position
answer_text (answer.NotOwnerAt position) = word_and (codes "NOTOWNER") position
answer_text (answer.ExtendedAt position) = word_and (codes "EXTENDED") position
answer_text answer.Posted = codes "POSTED"
answer_text answer.Woke = codes "WOKE"
answer_text (answer.AlreadyPosted code) = word_and (codes "ALREADY") code
answer_text (answer.Moved word) = word_and (word_and (codes "MOVED") (word / 2 ^ 45)) (word % 2 ^ 45)
answer_text (answer.Word word) = word_and (codes "WORD") word
answer_text answer.NotOwner = codes "NOTOWNER"
answer_text answer.Done = codes "DONE"
answer_text answer.BadExit = codes "BADEXIT"
answer_text answer.Extended = codes "EXTENDED"
answer_text (answer.Complete code) = word_and (codes "COMPLETE") code
answer_text (answer.Value number) = word_and (codes "VALUE") number
answer_text (answer.Token token) = codes "TOKEN " ++ token_text token
answer_text answer.NoElement = codes "NOELEMENT"
answer_text (answer.Given code next) = word_and (codes "GIVEN") code ++ codes " " ++ token_text next
answer_text (answer.Spent generation) = word_and (codes "SPENT") generation
answer_text answer.Early = codes "EARLY"
answer_text answer.AlreadyReleased = codes "ALREADY"
answer_text (answer.TargetSpent generation) = word_and (codes "TARGET SPENT") generation
answer_text answer.TargetAlready = codes "TARGET ALREADY"
answer_text (answer.State s) = word_and (codes "STATE") s.generation ++ codes " " ++ word_and (phase_text s.phase) s.code
answer_text answer.Granted = codes "GRANTED"
answer_text answer.Pending = codes "PENDING"
answer_text answer.BadLatch = codes "BADLATCH"
answer_text answer.Quota = codes "QUOTA"
answer_text (answer.NotNow id) = word_and (codes "NOTNOW") id
answer_text answer.Purged = codes "PURGED"
answer_text answer.Waiting = codes "WAITING"
answer_text answer.Gone = codes "GONE"
answer_text answer.NoToken = codes "NOTOKEN"
answer_text (answer.Released granted) = word_and (codes "RELEASED") granted
answer_text (answer.Entered position) = word_and (codes "ENTERED") position
answer_text (answer.Event index word) = word_and (word_and (codes "EVENT") index) word
answer_text answer.Drained = codes "DRAINED"
answer_text (answer.PurgedCounts removed granted) = word_and (word_and (codes "PURGED") removed) granted

-- a line: the number of the task, counted from 0, the number of the call, counted from 1, and the answer
abbrev pub answer_line : ℕ → ℕ → Answer → List ℕ
answer_line task call a = word_and (decimal task) call ++ codes " " ++ answer_text a ++ codes "\n"

-- the lines of a task's answers, of which the first is to this call
abbrev pub task_lines : ℕ → ℕ → List Answer → List ℕ
task_lines task call [] = []
task_lines task call (a ∷ answers) = answer_line task call a ++ task_lines task (call + 1) answers

-- the lines of tasks, of which the first is this one
abbrev pub lines_from : ℕ → List (List Answer) → List ℕ
lines_from task [] = []
lines_from task (answers ∷ tasks) = task_lines task 1 answers ++ lines_from (task + 1) tasks

-- the text of all answers
abbrev pub answers_text : List (List Answer) → List ℕ
answers_text tasks = lines_from 0 tasks

-- ---- the answers that the text determines

-- a number of at most eight bytes, as each number of an answer is by its type
abbrev pub IsNumber : ℕ → Type 0
IsNumber n = n < 2 ^ 64

-- the code of a block has at most eight bytes
abbrev pub IsSlotInRange : WaitSlot → Type 0
IsSlotInRange (slot.Complete code) = IsNumber code
IsSlotInRange slot.Open = Unit {0}

-- both numbers of a token have at most eight bytes
abbrev pub IsTokenInRange : Token → Type 0
IsTokenInRange t = IsNumber t.element × IsNumber t.generation

-- each number of an answer has at most eight bytes
abbrev pub IsInRange : Answer → Type 0
IsInRange (answer.Waited slots) = All IsSlotInRange slots
IsInRange (answer.Doubled position) = IsNumber position
IsInRange (answer.NotOwnerAt position) = IsNumber position
IsInRange (answer.ExtendedAt position) = IsNumber position
IsInRange (answer.AlreadyPosted code) = IsNumber code
IsInRange (answer.Moved word) = IsNumber word
IsInRange (answer.Word word) = IsNumber word
IsInRange (answer.Complete code) = IsNumber code
IsInRange (answer.Value number) = IsNumber number
IsInRange (answer.Token token) = IsTokenInRange token
IsInRange (answer.Given code next) = IsNumber code × IsTokenInRange next
IsInRange (answer.Spent generation) = IsNumber generation
IsInRange (answer.TargetSpent generation) = IsNumber generation
IsInRange (answer.State s) = IsNumber s.generation × IsNumber s.code
IsInRange (answer.NotNow id) = IsNumber id
IsInRange (answer.Released granted) = IsNumber granted
IsInRange (answer.Entered position) = IsNumber position
IsInRange (answer.Event index word) = IsNumber index × IsNumber word
IsInRange (answer.PurgedCounts removed granted) = IsNumber removed × IsNumber granted
IsInRange _ = Unit {0}

-- the number of tasks, the number of calls of each, and each number of each answer have at most eight bytes
pub record AreInRange (tasks : List (List Answer)) : Type 0 where
  pub tasks_counted : IsNumber (length tasks)
  pub calls_counted : All (λ answers. IsNumber (length answers)) tasks
  pub answers : All (λ answers. All IsInRange answers) tasks
