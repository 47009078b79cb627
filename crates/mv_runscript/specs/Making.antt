-- The calls of a script that a task made: one of them, and several one after the other.
use Rattle.std.specs.Prelude.{◌≡◌, ℕ, ◌<◌, ◌≤◌, Bool, true, false, List, [], ◌∷◌, ◌++◌, length, map, option_map, Option}
use Rattle.std.specs.Prelude.{Some, None, Result, Ok, Err}
use Rattle.std.specs.List.{AllByRecursion}
use Rattle.mv_board.specs.Faces.{CallerFace}
use Rattle.mv_latchset.specs.declared.obtaining.Obtained.{Obtained}
use Rattle.mv_latchset.specs.declared.obtaining.Obtained.TheVariants.{Granted, Pending}
use Rattle.mv_latchset.specs.declared.obtaining.ObtainRefusal.{ObtainRefusal}
use Rattle.mv_latchset.specs.declared.token.LatchToken.{LatchToken}
use Rattle.mv_machine.specs.declared.entry.Object.{Object}
use Rattle.mv_config.specs.Setup.{Setup}
use Rattle.mv_calls.specs.declared.table.Table.{Table}
use Rattle.mv_calls.specs.declared.outcomes.WaitSlot.{WaitSlot}
use Rattle.mv_wait.specs.Run.{IsServed}
use Rattle.mv_script.specs.declared.answer.Answer.{Answer}
use Rattle.mv_scriptline.specs.declared.call.Call.{Call}
use Rattle.mv_scriptline.specs.declared.call.Call.TheVariants as call
use Rattle.mv_script.specs.Costs.{Asked, cost}
use Rattle.mv_scriptline.specs.Limits.{elements_per_task, volumes, latches, most_waited}
use Rattle.mv_script.specs.Run.{try_target, word_in}
use Rattle.mv_script.specs.Sound.{IfThere, HasGoodNumbers, IsSoundCall, AreSoundCalls}
use Rattle.mv_script.specs.Tasks.{Past, named_table, made}

-- ---- what a task has after some of its calls

-- the request of a token, without the key under which the task keeps it
abbrev pub asked_by : LatchToken → Asked
asked_by token = record { latch = token.latch; id = token.id }

-- the token of the request that an OBTAIN got, if it got one
abbrev pub token_in : Result Obtained ObtainRefusal → Option LatchToken
token_in (Ok (Granted token)) = Some token
token_in (Ok (Pending token)) = Some token
token_in (Err why) = None

-- the requests that the OBTAINs with these tokens got
abbrev pub requests_of : List (Option LatchToken) → List (Option Asked)
requests_of tokens = map (λ t. option_map asked_by t) tokens

-- the past of a task whose calls had these answers and whose OBTAINs got these requests
abbrev pub past_with : List Answer → List (Option LatchToken) → Past
past_with answers tokens = record { answers = answers; requests = requests_of tokens }

-- the latches of these tokens exist
abbrev pub AreOfLatches : List (Option LatchToken) → Type 0
AreOfLatches tokens = AllByRecursion (IfThere (λ (t : LatchToken). t.latch < latches)) tokens

-- ---- configurations and tables of scripts, as far as calls require them

-- the numbers of a call are in the ranges of a script with this configuration and table
abbrev pub AreGoodIn : Setup → Option Table → Call → Type 0
AreGoodIn c table call = HasGoodNumbers (record { tasks = c.callers; ecbs = length c.owners; table = table }) call

-- the call is allowed after these calls of its task, in a script with this configuration and table
abbrev pub IsSoundIn : Setup → Option Table → List Call → Call → Type 0
IsSoundIn c table before call = IsSoundCall (record { tasks = c.callers; ecbs = length c.owners; table = table }) before call

-- each of these calls is allowed after those before it, in a script with this configuration and table
abbrev pub AreSoundIn : Setup → Option Table → List Call → List Call → Type 0
AreSoundIn c table before calls = AreSoundCalls (record { tasks = c.callers; ecbs = length c.owners; table = table }) before calls

-- the configuration has as many elements, volumes and latches as that of a script
pub record IsForScripts (c : Setup) : Type 0 where
  pub elements : c.elements_per_caller ≡ elements_per_task
  pub volume_count : c.volumes ≡ volumes
  pub latch_count : c.latches ≡ latches

-- ---- room for the answers of WAITs

-- whether a call is a WAIT
abbrev pub is_wait : Call → Bool
is_wait (call.Wait count ecbs) = true
is_wait _ = false

-- each of these rooms has a slot for each block that a WAIT may have
abbrev pub HaveSlots : List (List WaitSlot) → Type 0
HaveSlots rooms = AllByRecursion (λ (slots : List WaitSlot). most_waited ≤ length slots) rooms

-- ---- one call

-- The call tried an object and found this word there, not the one that it expected. The task read this word after the entries
-- that it had then, and no other word.
pub record HasMet (call : Call) (w : ℕ) (t u : CallerFace) : Type 0 where
  pub object : Object
  pub expected : ℕ
  pub tries : try_target call ≡ Some (object, expected)
  pub other : w ≡ expected → ⊥
  pub met : u.met ≡ t.met ++ record { object = object; word = w; after = length t.log } ∷ []

-- The task did what `made` says of this call, with this answer, whatever answers it had before and whether or not the call found
-- another word than it expected. Its past has one answer more and, after an OBTAIN, one request more. If the answer shows a word,
-- the task read that word in this call.
pub record MakesCall (c : Setup) (table : Option Table) (call : Call) (answer : Answer) (old new : List (Option LatchToken))
    (t u : CallerFace) : Type 0 where
  pub served : (answers : List Answer)
      → IsServed (cost c call) (made c (named_table table) (word_in answer) (past_with answers old) call)
      (λ past. past ≡ past_with (answers ++ answer ∷ []) new) t u
  pub met : (w : ℕ) → word_in answer ≡ Some w → HasMet call w t u

-- ---- one after the other

-- these calls were made in order, and each had the answer at its position
abbrev pub MakesCalls : Setup → Option Table → List Call → List Answer → List (Option LatchToken) → List (Option LatchToken)
    → CallerFace → CallerFace → Type 0
MakesCalls c table [] [] old new t u = (new ≡ old) × (u ≡ t)
MakesCalls c table (call ∷ calls) (answer ∷ answers) old new t u = (between : List (Option LatchToken)) × (v : CallerFace)
    × MakesCall c table call answer old between t v × MakesCalls c table calls answers between new v u
MakesCalls c table _ _ old new t u = ⊥
