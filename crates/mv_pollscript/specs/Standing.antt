-- How far the tasks of a script have got, by what they have made and by the state of the machine.
use Rattle.std.specs.Prelude.{ℕ, Bool, true, false, ◌&&◌, ◌==◌, nat_lt, List, [], length, count_by, slice_get, slice_index_or}
use Rattle.std.specs.Prelude.{Option, Some, None, if◌then◌else◌}
use Rattle.std.specs.List.{list_any}
use Rattle.mv_ecb.specs.Word.{is_complete}
use Rattle.mv_element.specs.declared.element.Phase.{Phase}
use Rattle.mv_element.specs.declared.element.Phase.TheVariants.{Paused}
use Rattle.mv_latch.specs.Latch.{waiting}
use Rattle.mv_latch.specs.LatchSet.{list_of}
use Rattle.mv_latch.specs.declared.request.LatchForm.{LatchForm}
use Rattle.mv_latch.specs.declared.request.LatchForm.TheVariants.{Waiting}
use Rattle.mv_latch.specs.declared.request.Request.{Request}
use Rattle.mv_machine.specs.System.{System}
use Rattle.mv_pollscript.specs.declared.standing.Standing.{Standing}
use Rattle.mv_pollscript.specs.declared.standing.Standing.TheVariants as standing
use Rattle.mv_script.specs.declared.answer.Answer.{Answer}
use Rattle.mv_scriptline.specs.declared.call.Call.{Call}
use Rattle.mv_scriptline.specs.declared.call.Call.TheVariants as call

-- ---- what has not happened

-- whether a block is complete
abbrev pub is_complete_in : System → ℕ → Bool
is_complete_in s e = is_complete (s.ecb e).state

-- whether a task pauses, by the phase of an element
abbrev pub is_paused : Phase → Bool
is_paused Paused = true
is_paused _ = false

-- whether a task pauses with this element
abbrev pub is_paused_in : System → ℕ → Bool
is_paused_in s n = is_paused (s.element n).state.phase

-- whether a task waits in the call that makes a request of this form until the request is granted
abbrev pub is_waiting_form : LatchForm → Bool
is_waiting_form Waiting = true
is_waiting_form _ = false

-- whether a request is one that task k waits for
abbrev pub is_waiter : ℕ → Request → Bool
is_waiter k q = (q.caller == k) && is_waiting_form q.form

-- whether task k waits for a request in this list that does not hold the latch
abbrev pub waits_at : ℕ → List Request → Bool
waits_at k qs = list_any (is_waiter k) (waiting qs)

-- Whether this call of task k waits: fewer blocks are complete than its count; or its element is paused with, and not released; or it
-- has a request at its latch that is not granted. No other call waits.
abbrev pub waits_in : System → ℕ → Call → Bool
waits_in s k (call.Wait count ecbs) = nat_lt (count_by (is_complete_in s) ecbs) count
waits_in s k (call.Pause token) = is_paused_in s token.element
waits_in s k (call.Obtain latch requestor mode form) = waits_at k (list_of s.latches.state latch)
waits_in s k _ = false

-- whether a task stops before this call, which is not polled: a TRANSFER that pauses, an EVPOST or an EVNEXT
abbrev pub stops_before : Call → Bool
stops_before (call.Transfer (Some current) target code) = true
stops_before (call.PostEvent index code) = true
stops_before (call.NextEvent position) = true
stops_before _ = false

-- ---- tasks

-- the call of task k after those that have an answer, if there is one
abbrev pub next_call : List (List Call) → List (List Answer) → ℕ → Option Call
next_call lists answers k = slice_get (slice_index_or lists k []) (length (slice_index_or answers k []))

-- how far task k has got, with this next call
abbrev pub standing_of : System → ℕ → Option Call → Standing
standing_of s k None = standing.Finished
standing_of s k (Some d) =
    if waits_in s k d then standing.Waits else if stops_before d then standing.Stopped else standing.CanGoOn

-- how far task k has got
abbrev pub standing_in : System → List (List Call) → List (List Answer) → ℕ → Standing
standing_in s lists answers k = standing_of s k (next_call lists answers k)

-- whether a task that has got so far can go on
abbrev pub can_go_on : Standing → Bool
can_go_on standing.CanGoOn = true
can_go_on _ = false
