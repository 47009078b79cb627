-- Who waits for what.
use Rattle.std.specs.Prelude.{ℕ, zero, suc, ◌+◌, nat_lt, List, [], ◌∷◌, ◌++◌, codes, decimal, length, slice_index_or, Option, Some, None}
use Rattle.std.specs.Prelude.{if◌then◌else◌}
use Rattle.mv_latch.specs.LatchSet.{list_of}
use Rattle.mv_latch.specs.declared.request.Request.{Request}
use Rattle.mv_config.specs.Setup.{Setup}
use Rattle.mv_machine.specs.System.{System}
use Rattle.mv_pollscript.specs.declared.finding.Deed.TheVariants.{Posts, Releases}
use Rattle.mv_pollscript.specs.declared.finding.Place.{Place}
use Rattle.mv_pollscript.specs.declared.sentences.TheConstants.{FOR_BLOCK, FOR_ELEMENT, FOR_LATCH, HOLDS, NOBODY_POSTS, NOBODY_RELEASES}
use Rattle.mv_pollscript.specs.declared.sentences.TheConstants.{NOT_MADE, STOPS, TASK, WAITS, WHICH_TASK, WOULD_POST, WOULD_RELEASE}
use Rattle.mv_pollscript.specs.Finding.{first_call}
use Rattle.mv_pollscript.specs.Standing.{is_complete_in, next_call, stops_before, waits_in}
use Rattle.mv_script.specs.declared.answer.Answer.{Answer}
use Rattle.mv_scriptline.specs.declared.call.Call.{Call}
use Rattle.mv_scriptline.specs.declared.call.Call.TheVariants as call

-- a task waits at this call
unfoldable pub waiter_text : Place → List ℕ
waiter_text at = (TASK.now ++ decimal at.task) ++ (WAITS.now ++ decimal at.call)

-- the call that would end a wait, or that there is none
unfoldable pub who_text : Option Place → (would nobody : List ℕ) → List ℕ
who_text None would nobody = nobody
who_text (Some at) would nobody = (WHICH_TASK.now ++ decimal at.task) ++ (would ++ decimal at.call) ++ codes "\n"

-- a task waits for a block
unfoldable pub block_text : List (List Call) → List (List Answer) → Place → ℕ → List ℕ
block_text lists answers at e =
    waiter_text at ++ (FOR_BLOCK.now ++ decimal e) ++ who_text (first_call (Posts e) 0 lists answers) WOULD_POST.now NOBODY_POSTS.now

-- the same of a block that is open
unfoldable pub open_text : System → List (List Call) → List (List Answer) → Place → ℕ → List ℕ
open_text s lists answers at e = if is_complete_in s e then [] else block_text lists answers at e

-- the same of each of these blocks that is open
abbrev pub blocks_text : System → List (List Call) → List (List Answer) → Place → List ℕ → List ℕ
blocks_text s lists answers at [] = []
blocks_text s lists answers at (e ∷ es) =
    open_text s lists answers at e ++ blocks_text s lists answers at es

-- a task waits for a release
unfoldable pub element_text : List (List Call) → List (List Answer) → Place → ℕ → List ℕ
element_text lists answers at n = waiter_text at ++ (FOR_ELEMENT.now ++ decimal n)
    ++ who_text (first_call (Releases n) 0 lists answers) WOULD_RELEASE.now NOBODY_RELEASES.now

-- who made the first of these requests, if there is one
unfoldable pub first_text : List Request → List ℕ
first_text [] = codes "\n"
first_text (q ∷ qs) = (WHICH_TASK.now ++ decimal q.caller) ++ HOLDS.now

-- who holds a latch
unfoldable pub holder_text : Setup → System → ℕ → List ℕ
holder_text c s latch = if nat_lt latch c.latches then first_text (list_of s.latches.state latch) else codes "\n"

-- a task waits for a latch
unfoldable pub latch_text : Setup → System → Place → ℕ → List ℕ
latch_text c s at latch = waiter_text at ++ (FOR_LATCH.now ++ decimal latch) ++ holder_text c s latch

-- what this call of a task waits for
unfoldable pub call_text : Setup → System → List (List Call) → List (List Answer) → Place → Call → List ℕ
call_text c s lists answers at (call.Wait count ecbs) = blocks_text s lists answers at ecbs
call_text c s lists answers at (call.Pause token) = element_text lists answers at token.element
call_text c s lists answers at (call.Obtain latch requestor mode form) = latch_text c s at latch
call_text c s lists answers at _ = []

-- a task stops before this call
unfoldable pub stopped_text : Place → List ℕ
stopped_text at = (TASK.now ++ decimal at.task) ++ (STOPS.now ++ decimal at.call) ++ NOT_MADE.now

-- What task k waits for, or where it stops, with this next call. Nothing is said of a task that can go on.
abbrev pub next_text : Setup → System → List (List Call) → List (List Answer) → ℕ → Option Call → List ℕ
next_text c s lists answers k None = []
next_text c s lists answers k (Some d) =
    let at : Place = record { task = k; call = length (slice_index_or answers k []) + 1 } in
    if waits_in s k d then call_text c s lists answers at d else if stops_before d then stopped_text at else []

-- the same, with the call after those that have an answer
abbrev pub task_text : Setup → System → List (List Call) → List (List Answer) → ℕ → List ℕ
task_text c s lists answers k = next_text c s lists answers k (next_call lists answers k)

-- the same of `count` tasks, from one on
abbrev pub tasks_text : Setup → System → List (List Call) → List (List Answer) → (from count : ℕ) → List ℕ
tasks_text c s lists answers from zero = []
tasks_text c s lists answers from (suc count) = task_text c s lists answers from ++ tasks_text c s lists answers (from + 1) count

-- what each task that has calls left waits for, or where it stops
abbrev pub waits_text : Setup → System → List (List Call) → List (List Answer) → List ℕ
waits_text c s lists answers = tasks_text c s lists answers 0 (length lists)
