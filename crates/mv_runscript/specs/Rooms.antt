-- What each task has besides its seat, and what that is after its calls.
use Rattle.std.specs.Prelude.{◌≡◌, ℕ, ◌≤◌, List, [], length, count_by, vec_capacity, Option}
use Rattle.mv_board.specs.Faces.{BoardFace, CallerFace, IsFresh}
use Rattle.mv_config.specs.Setup.{Setup}
use Rattle.mv_calls.specs.declared.table.Table.{Table}
use Rattle.mv_scriptline.specs.declared.call.Call.{Call}
use Rattle.mv_script.specs.Script.{ScriptData}
use Rattle.mv_runscript.specs.declared.room.Room.{Room}
use Rattle.mv_runscript.specs.Making.{MakesCalls, HaveSlots, is_wait}

-- the room has no answer and no request yet, and it is large enough for these calls
pub record HasRoom (calls : List Call) (r : Room) : Type 0 where
  pub none_answered : r.answers.items ≡ []
  pub none_asked : r.requests.items ≡ []
  pub answers : length calls ≤ vec_capacity r.answers
  pub requests : length calls ≤ vec_capacity r.requests
  pub waits : count_by is_wait calls ≤ length r.slots.items
  pub slots : HaveSlots r.slots.items

-- a script with this configuration and table, and these calls
abbrev pub script_with : Setup → Option Table → List (List Call) → ScriptData
script_with c table tasks = record { setup = c; tasks = tasks; table = table }

-- task k, which began without an event, has made these calls, and the room has their answers and requests
pub record HasMade (b : BoardFace) (table : Option Table) (calls : List Call) (k : ℕ) (r : Room) (t : CallerFace) : Type 0 where
  pub before : CallerFace
  pub fresh : IsFresh b k before
  pub makes : MakesCalls b.config table calls r.answers.items [] r.requests.items before t
