-- What initiators note of the jobs that they run.
use Rattle.std.specs.Prelude.{ℕ, List}
use Rattle.mv_work.specs.declared.records.Noted.{Noted}

-- what an initiator brings back of a job: how it ended, and what was noted of its steps, in order
pub record JobRecord : Type 0 where
  pub job : ℕ
  pub end : ℕ
  pub notes : List Noted

-- how contracts see an initiator's record: the jobs that have ended, in order; what is noted since then; and for how much more there
-- is room
pub record Recorded : Type 0 where
  pub jobs : List JobRecord
  pub notes : List Noted
  pub room : ℕ
