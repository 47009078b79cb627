-- An initiator's record as it lies in memory: one list of marks.
use Rattle.std.specs.Prelude.{◌≤◌, ◌-◌, List, [], ◌∷◌, ◌++◌, length, vec_capacity}
use Rattle.mv_work.specs.declared.records.InitiatorRecord.TheInside.{Inside}
use Rattle.mv_work.specs.declared.records.Mark.{Mark}
use Rattle.mv_work.specs.declared.records.Mark.TheVariants.{Step, Ended}
use Rattle.mv_work.specs.declared.records.Noted.{Noted}
use Rattle.mv_work.specs.Records.{JobRecord, Recorded}

-- the jobs that have ended by these marks, where this is noted already of the first
abbrev pub jobs_in : List Noted → List Mark → List JobRecord
jobs_in notes [] = []
jobs_in notes (Step noted ∷ marks) = jobs_in (notes ++ noted ∷ []) marks
jobs_in notes (Ended job end ∷ marks) = record { job = job; end = end; notes = notes } ∷ jobs_in [] marks

-- what is noted after the last end
abbrev pub notes_in : List Noted → List Mark → List Noted
notes_in notes [] = notes
notes_in notes (Step noted ∷ marks) = notes_in (notes ++ noted ∷ []) marks
notes_in notes (Ended job end ∷ marks) = notes_in [] marks

-- the record that these marks are
abbrev pub recorded : Inside → Recorded
recorded i = record {
  jobs = jobs_in [] i.marks.items;
  notes = notes_in [] i.marks.items;
  room = vec_capacity i.marks - length i.marks.items;
}

-- there is no less room than is taken
abbrev pub Fits : Inside → Type 0
Fits i = length i.marks.items ≤ vec_capacity i.marks
