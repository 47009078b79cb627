-- A task of a script between two polls. Here c is a configuration, d the call after those that the task has made, if there is one,
-- and t the task after those; u is the task now.
use Rattle.std.specs.Prelude.{◌≡◌, ℕ, ◌<◌, ◌≤◌, true, false, List, [], length, take, drop, count_by, slice_get, slice_index_or}
use Rattle.std.specs.Prelude.{Option, Some, None}
use Rattle.mv_board.specs.Faces.{BoardFace, CallerFace, IsFresh, IsOf}
use Rattle.mv_calls.specs.Rest.{IsAtRest}
use Rattle.mv_calls.specs.declared.table.Table.{Table}
use Rattle.mv_latch.specs.declared.request.LatchForm.TheVariants.{Waiting}
use Rattle.mv_config.specs.Setup.{Setup}
use Rattle.mv_polled.specs.Obtaining.{IsObtainAt, new_obtain}
use Rattle.mv_polled.specs.Pausing.{IsPauseAt, new_pause}
use Rattle.mv_polled.specs.Waiting.{IsWaitAt, new_wait}
use Rattle.mv_pollscript.specs.Standing.{stops_before}
use Rattle.mv_pollscript.specs.declared.task.ScriptTask.{ScriptTask}
use Rattle.mv_pollscript.specs.declared.task.Stage.{Stage}
use Rattle.mv_pollscript.specs.declared.task.Stage.TheVariants as stage
use Rattle.mv_runscript.specs.Making.{AreOfLatches, MakesCalls, is_wait}
use Rattle.mv_script.specs.Costs.{costs_of}
use Rattle.mv_script.specs.Script.{is_obtain}
use Rattle.mv_scriptline.specs.declared.call.Call.{Call}
use Rattle.mv_scriptline.specs.declared.call.Call.TheVariants as call

-- A task that comes to this call makes it in this stage, with no poll yet. A call without a stage does not wait.
abbrev pub IsStageFor : Option Stage → Call → Type 0
IsStageFor (Some (stage.Waits w)) d = (d ≡ call.Wait w.count w.ecbs) × (w ≡ new_wait (length w.ecbs) w.count w.ecbs)
IsStageFor (Some (stage.Pauses p)) d = (d ≡ call.Pause p.token) × (p ≡ new_pause p.token)
IsStageFor (Some (stage.Obtains q)) d =
    (d ≡ call.Obtain q.latch q.requestor q.mode Waiting) × (q ≡ new_obtain q.latch q.requestor q.mode)
IsStageFor (Some stage.Halted) d = stops_before d ≡ true
IsStageFor (Some stage.Between) d = ⊥
IsStageFor (Some stage.Finished) d = ⊥
IsStageFor None d = is_wait d ≡ false

-- what the task has done in this stage since its last call: nothing, or the first half of a call that it may poll again
abbrev pub Stands : Setup → Option Call → CallerFace → CallerFace → Stage → Type 0
Stands c d t u (stage.Waits w) = (d ≡ Some (call.Wait w.count w.ecbs)) × IsWaitAt c w t u
Stands c d t u (stage.Pauses p) = (d ≡ Some (call.Pause p.token)) × IsPauseAt c p t u
Stands c d t u (stage.Obtains q) = (d ≡ Some (call.Obtain q.latch q.requestor q.mode Waiting)) × IsObtainAt c q t u
Stands c d t u stage.Between = u ≡ t
Stands c d t u stage.Halted = u ≡ t
Stands c d t u stage.Finished = u ≡ t

-- Task k of a station b has made its first calls, whose answers it has, and is in a stage of the next one. It has the events that its
-- other calls may cost.
pub record IsTaskAt (b : BoardFace) (table : Option Table) (calls : List Call) (k : ℕ) (p : ScriptTask) : Type 0 where
  pub first : CallerFace
  pub fresh : IsFresh b k first
  pub between : CallerFace
  pub makes : MakesCalls b.config table (take (length p.answers.items) calls) p.answers.items [] p.requests.items first between
  pub few : length p.answers.items ≤ length calls
  pub requests : AreOfLatches p.requests.items
  pub count : length p.requests.items ≡ count_by is_obtain (take (length p.answers.items) calls)
  pub board : IsOf b between
  pub rest : IsAtRest between.log
  pub left : costs_of b.config (drop (length p.answers.items) calls) ≤ between.left
  pub stands : Stands b.config (slice_get calls (length p.answers.items)) between p.task p.stage

-- the task has made no call
pub record IsNewTask (p : ScriptTask) : Type 0 where
  pub answers : p.answers.items ≡ []
  pub requests : p.requests.items ≡ []
  pub stage : p.stage ≡ stage.Between

-- each of these is the task of its number, between two polls
abbrev pub AreTasksAt : BoardFace → Option Table → List (List Call) → List ScriptTask → Type 0
AreTasksAt b table lists ps =
    (k : ℕ) (d : ScriptTask) → k < length ps → IsTaskAt b table (slice_index_or lists k []) k (slice_index_or ps k d)
