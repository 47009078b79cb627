-- How contracts see logs: a closed log as the list of its entries, an open log also with its caller and the room that it has
-- left.
use Rattle.std.specs.Prelude.{ℕ, ◌-◌, List, [], ◌∷◌, ◌++◌, length, map, vec_capacity}
use Rattle.mv_machine.specs.declared.entry.Entry.{Entry}
use Rattle.mv_machine.specs.declared.entry.Object.{Object}
use Rattle.mv_machine.specs.declared.log.Log.TheInside.{Inside as LogInside}
use Rattle.mv_machine.specs.declared.log.OpenLog.TheInside.{Inside as OpenInside}
use Rattle.mv_machine.specs.Compact.{entry_of}

-- the entries of a log
abbrev pub entries_of : LogInside → List Entry
entries_of l = map (entry_of l.caller) l.compact.items

-- the object and the place of an entry
abbrev pub subject_of : Entry → Object × ℕ
subject_of e = (e.object, e.place)

-- an open log: its caller, its entries, and the number of further entries that it has room for
pub record OpenLogFace : Type 0 where
  pub caller : ℕ
  pub entries : List Entry
  pub room : ℕ

-- an open log with one more entry, and room for one less
abbrev pub with_entry : OpenLogFace → Entry → OpenLogFace
with_entry l e = record l { entries = l.entries ++ e ∷ []; room = l.room - 1 }

-- how contracts see an open log
abbrev pub open_log_of : OpenInside → OpenLogFace
open_log_of l = record {
  caller = l.caller;
  entries = map (entry_of l.caller) l.compact.items;
  room = vec_capacity l.compact - length l.compact.items;
}
