-- The writer, wait by wait. A stage is the number of the job whose end it waits for.
use Rattle.std.specs.Prelude.{ℕ, ◌+◌, ◌-◌, ◌*◌, ◌<◌, List, [], ◌∷◌, ◌++◌, ◌≤◌, length, vec_capacity, None, Result}
use Rattle.std.specs.List.{range_with_len}
use Rattle.std.proofs.Common.{Global, Vec}
use Rattle.mv_board.specs.Faces.{CallerFace}
use Rattle.mv_calls.specs.Program.{Call}
use Rattle.mv_plan.specs.SpoolSetup.{writer}
use Rattle.mv_plan.specs.SpoolTasks.{ends_kept, lowest}
use Rattle.mv_work.specs.declared.need.Got.{Got}
use Rattle.mv_work.specs.declared.lost.Lost.{Lost}
use Rattle.mv_work.specs.declared.need.Need.{Need}
use Rattle.mv_work.specs.declared.next.Next.{Next}
use Rattle.mv_work.specs.Meeting.{MayMeet}
use Rattle.mv_work.specs.Needs.{Answer, on_slots}
use Rattle.mv_work.specs.Scheduling.{AreBlocks, AreSlots}
use Rattle.mv_work.specs.Spool.{SpoolFace}
use Rattle.mv_work.specs.Waiting.{Asks, Comes, Stages}

-- for how many more ends there is room
abbrev pub room_in : Vec ℕ Global → ℕ
room_in ends = vec_capacity ends - length ends.items

-- the ends of the jobs from j on, after those that are kept
abbrev pub ends_from : SpoolFace → List ℕ → ℕ → Call (List ℕ)
ends_from s ends j = ends_kept s.board.config (length s.jobs) ends (range_with_len j (length s.jobs - j))

-- the end of job j was found
abbrev pub end_found : SpoolFace → List ℕ → ℕ → ℕ → ℕ → Call (List ℕ)
end_found s ends j position end = ends_from s (ends ++ end ∷ []) (j + 1)

-- what is left to do after the answer
abbrev pub writer_left : SpoolFace → List ℕ → ℕ → Answer → Call (List ℕ)
writer_left s ends j = on_slots (lowest (end_found s ends j) 0)

-- the events after the answer
abbrev pub writer_due : SpoolFace → ℕ → ℕ
writer_due s j = 2 * (length s.jobs - (j + 1))

-- what the writer has left at each stage, where these ends were found
abbrev pub writer_stages : SpoolFace → List ℕ → Stages ℕ (List ℕ)
writer_stages s ends = record { then = writer_left s ends; due = writer_due s }

-- the writer waits for one block, and has room for all ends that are to come
pub record IsWriterNeed (s : SpoolFace) (most j : ℕ) (need : Need) : Type 0 where
  pub number : j < length s.jobs
  pub room : length s.jobs - j ≤ most
  pub block : AreBlocks None need
  pub may : MayMeet s.board.config (writer s.initiators) need

-- the writer was given the code of the block
pub record IsWriterAnswer (s : SpoolFace) (most j : ℕ) (g : Got) : Type 0 where
  pub number : j < length s.jobs
  pub room : length s.jobs - j ≤ most
  pub slot : AreSlots None g

-- the writer, which has these ends, asks for this
abbrev pub WriterAsks : SpoolFace → Vec ℕ Global → Call (List ℕ) → ℕ → Next ℕ → Type 0
WriterAsks s ends later most next =
    Asks s.board.config (writer_stages s ends.items) (IsWriterNeed s (room_in ends)) ends.items later most next

-- the writer came to its next wait or to its end, and has these ends
abbrev pub WriterComes : SpoolFace → Vec ℕ Global → Call (List ℕ) → CallerFace → Result (Next ℕ) Lost → CallerFace → Type 0
WriterComes s ends whole t next u =
    Comes s.board (writer_stages s ends.items) (IsWriterNeed s (room_in ends)) ends.items whole t next u
