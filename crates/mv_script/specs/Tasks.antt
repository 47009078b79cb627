-- The tasks of a script: each makes its calls in order, one after the other.
use Rattle.std.specs.Prelude.{ℕ, ◌-◌, Bool, false, List, [], ◌∷◌, ◌++◌, length, slice_get, Option, Some, None, is_none}
use Rattle.std.specs.Prelude.{option_and_then, unwrap_or, Result, Ok, Err, if◌then◌else◌}
use Rattle.mv_config.specs.Setup.{Setup}
use Rattle.mv_calls.specs.declared.table.Table.{Table}
use Rattle.mv_calls.specs.Keeping.{nothing_kept}
use Rattle.mv_calls.specs.LatchCalls.{Requested, GrantedAs, PendingAs}
use Rattle.mv_calls.specs.Program.{Program, followed, finished}
use Rattle.mv_calls.specs.Program as program
use Rattle.mv_calls.specs.Refusal.{Refusal}
use Rattle.mv_calls.specs.Services.{Service}
use Rattle.mv_calls.specs.Services as service
use Rattle.mv_script.specs.declared.answer.Answer.{Answer}
use Rattle.mv_script.specs.declared.answer.Answer.TheVariants.{Moved, NoToken}
use Rattle.mv_scriptline.specs.declared.call.Call.{Call}
use Rattle.mv_script.specs.Answered.{answer_to}
use Rattle.mv_script.specs.Costs.{Asked, service_of, no_table}
use Rattle.mv_script.specs.Fault.{obtain_meant}
use Rattle.mv_script.specs.Script.{ScriptData}

-- what a task has after some of its calls: their answers, and for each OBTAIN among them the request that it got, if it got one
pub record Past : Type 0 where
  pub answers : List Answer
  pub requests : List (Option Asked)

-- what a task has before its first call
abbrev pub no_past : Past
no_past = record { answers = []; requests = [] }

-- the request of the k-th OBTAIN, counted from 1, if it got one
abbrev pub request_at : List (Option Asked) → ℕ → Option Asked
request_at requests k = option_and_then (λ r. r) (slice_get requests (k - 1))

-- the request of the k-th OBTAIN, counted from 1; latch 0 and number 0 if it got none
abbrev pub request_of : List (Option Asked) → ℕ → Asked
request_of requests k = unwrap_or (request_at requests k) (record { latch = 0; id = 0 })

-- whether a call names an OBTAIN that got no request
abbrev pub lacks_request : List (Option Asked) → Option ℕ → Bool
lacks_request requests None = false
lacks_request requests (Some k) = is_none (request_at requests k)

-- ---- one call

-- the request that an obtain of this latch got, if it got one
abbrev pub request_in : ℕ → Result Requested Refusal → Option Asked
request_in latch (Ok (GrantedAs id)) = Some (record { latch = latch; id = id })
request_in latch (Ok (PendingAs id)) = Some (record { latch = latch; id = id })
request_in latch (Err why) = None

-- the requests after a service: an obtain adds the request that it got, or none
abbrev pub requests_with : List (Option Asked) → (s : Service) → service.Answer s → List (Option Asked)
requests_with requests (service.Obtain latch requestor mode form) a = requests ++ request_in latch a ∷ []
requests_with requests _ a = requests

-- what a task has after a call that requested no service and has this answer
abbrev pub answered : Past → Answer → Past
answered past a = record past { answers = past.answers ++ a ∷ [] }

-- what a task has after a call whose service returned a
abbrev pub served : Past → (s : Service) → service.Answer s → Past
served past s a = record { answers = past.answers ++ answer_to s a ∷ []; requests = requests_with past.requests s a }

-- One call of a script. Two answers make no event: MOVED, if a try read another word than it expected, and NOTOKEN, if a CHECK or
-- FREE names an OBTAIN that got no request. Any other call makes the events of its service. `Some w` is given only for a try, as `IsMet`
-- of specs/Run says.
abbrev pub made : Setup → Table → Option ℕ → Past → Call → program.Call Past
made c t (Some w) past call = finished (answered past (Moved w))
made c t None past call =
    if lacks_request past.requests (obtain_meant call) then finished (answered past NoToken)
    else followed (service.program c (service_of t (request_of past.requests) call))
    (λ a. finished (served past (service_of t (request_of past.requests) call) a))

-- ---- all calls of a task

-- The calls of a task from here on, in order. `moved` has, for each call, counted from 0, the unexpected word that it read, if it
-- read one.
abbrev pub made_all : Setup → Table → (ℕ → Option ℕ) → Past → List Call → program.Call Past
made_all c t moved past [] = finished past
made_all c t moved past (call ∷ calls) =
    followed (made c t (moved (length past.answers)) past call) (λ next. made_all c t moved next calls)

-- the table that calls name; in a script without a table no call names one
abbrev pub named_table : Option Table → Table
named_table table = unwrap_or table no_table

-- the calls of task k
abbrev pub calls_at : ScriptData → ℕ → List Call
calls_at script k = unwrap_or (slice_get script.tasks k) []

-- the words that tries read in place of those that they expected: for each task, and each of its calls, counted from 0
abbrev pub Moves : Type 0
Moves = ℕ → ℕ → Option ℕ

-- the program of task k, from its beginning
abbrev pub task_program : ScriptData → Moves → ℕ → Program Past
task_program script moves k = made_all script.setup (named_table script.table) (moves k) no_past (calls_at script k) (nothing_kept k)
