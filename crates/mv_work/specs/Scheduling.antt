-- The scheduler, wait by wait.
use Rattle.std.specs.Prelude.{◌≡◌, ℕ, ◌+◌, ◌-◌, ◌*◌, ◌<◌, Bool, List, [], length, drop, map, Option, Some, None, Result}
use Rattle.std.specs.List.{range_with_len}
use Rattle.mv_board.specs.Faces.{CallerFace}
use Rattle.mv_calls.specs.Program.{Call, accepted, finished, followed, for_each}
use Rattle.mv_calls.specs.Waits.{extend}
use Rattle.mv_deck.specs.Weight.{after_parts}
use Rattle.mv_plan.specs.Jobs.{job_at}
use Rattle.mv_plan.specs.SpoolSetup.{idle, done, scheduler}
use Rattle.mv_plan.specs.SpoolTasks.{dispatch_all, dismiss, ends_awaited, first_of, lowest, hand_over, code_of, some_end_above}
use Rattle.mv_work.specs.declared.need.Got.{Got}
use Rattle.mv_work.specs.declared.need.Got.TheVariants as got
use Rattle.mv_work.specs.declared.lost.Lost.{Lost}
use Rattle.mv_work.specs.declared.need.Need.{Need}
use Rattle.mv_work.specs.declared.next.Next.{Next}
use Rattle.mv_work.specs.declared.need.Need.TheVariants as need
use Rattle.mv_work.specs.declared.stage.SchedulerStage.{SchedulerStage}
use Rattle.mv_work.specs.declared.stage.SchedulerStage.TheVariants.{Entry, Ends, Idle, Dismissal}
use Rattle.mv_work.specs.Meeting.{MayMeet}
use Rattle.mv_work.specs.Needs.{Answer, on_slots}
use Rattle.mv_work.specs.Spool.{SpoolFace}
use Rattle.mv_work.specs.Waiting.{Asks, Comes, Stages}

-- the dismissals from initiator m on
abbrev pub dismissals_from : SpoolFace → ℕ → Call (List ℕ)
dismissals_from s m = for_each (range_with_len m (s.initiators - m)) (dismiss s.board.config (length s.jobs)) (finished [])

-- the jobs from j on, and then the dismissals
abbrev pub jobs_from : SpoolFace → ℕ → Call (List ℕ)
jobs_from s j = dispatch_all s.board.config (length s.jobs) s.initiators j (drop j s.jobs)
    (for_each (range_with_len 0 s.initiators) (dismiss s.board.config (length s.jobs)) (finished []))

-- the blocks of the initiators
abbrev pub idles : SpoolFace → List ℕ
idles s = map (idle (length s.jobs)) (range_with_len 0 s.initiators)

-- job j once its exit is set: it is handed to the first initiator that is idle
abbrev pub first_idle : SpoolFace → ℕ → Bool → Call (Unit {0})
first_idle s j skipped = first_of s.board.config (idles s) (hand_over s.board.config (length s.jobs) (code_of j skipped))

-- job j once the ends that it waits for are known: its exit is set
abbrev pub exit_set : SpoolFace → ℕ → Bool → Call (Unit {0})
exit_set s j skipped = accepted (extend s.board.config (done (length s.jobs) j) (j + 1)) (λ linked. first_idle s j skipped)

-- job j once it was entered
abbrev pub entry_found : SpoolFace → ℕ → ℕ → ℕ → Call (Unit {0})
entry_found s j position zero_code = ends_awaited s.board.config (length s.jobs) (job_at s.jobs j).after (exit_set s j)

-- an initiator was found idle that is to be dismissed
abbrev pub dismissal_found : SpoolFace → ℕ → ℕ → ℕ → Call (Unit {0})
dismissal_found s m position generation = hand_over s.board.config (length s.jobs) 0 m generation

-- job j, of which this is left, and then the jobs after it
abbrev pub then_jobs : SpoolFace → ℕ → Call (Unit {0}) → Call (List ℕ)
then_jobs s j call = followed call (λ handed. jobs_from s (j + 1))

-- what is left to do after the answer
abbrev pub scheduler_left : SpoolFace → SchedulerStage → Answer → Call (List ℕ)
scheduler_left s (Entry j) = on_slots (λ slots. then_jobs s j (lowest (entry_found s j) 0 slots))
scheduler_left s (Ends j) = on_slots (λ slots. then_jobs s j (exit_set s j (some_end_above (job_at s.jobs j).after slots)))
scheduler_left s (Idle j skipped) =
    on_slots (λ slots. then_jobs s j (lowest (hand_over s.board.config (length s.jobs) (code_of j skipped)) 0 slots))
scheduler_left s (Dismissal m) =
    on_slots (λ slots. followed (lowest (dismissal_found s m) 0 slots) (λ handed. dismissals_from s (m + 1)))

-- the events that may be made from job j on
abbrev pub jobs_due : SpoolFace → ℕ → ℕ
jobs_due s j = 5 * (length s.jobs - j) + 2 * ((length s.jobs - j) * s.initiators) + 2 * after_parts (drop j s.jobs) + 4 * s.initiators

-- the events after the answer
abbrev pub scheduler_due : SpoolFace → SchedulerStage → ℕ
scheduler_due s (Entry j) = 3 + 2 * length (job_at s.jobs j).after + 2 * s.initiators + jobs_due s (j + 1)
scheduler_due s (Ends j) = 3 + 2 * s.initiators + jobs_due s (j + 1)
scheduler_due s (Idle j skipped) = 2 + jobs_due s (j + 1)
scheduler_due s (Dismissal m) = 2 + 4 * (s.initiators - (m + 1))

-- what the scheduler has left at each stage
abbrev pub scheduler_stages : SpoolFace → Stages SchedulerStage (List ℕ)
scheduler_stages s = record { then = scheduler_left s; due = scheduler_due s }

-- its numbers are in their ranges
abbrev pub IsScheduled : SpoolFace → SchedulerStage → Type 0
IsScheduled s (Entry j) = j < length s.jobs
IsScheduled s (Ends j) = j < length s.jobs
IsScheduled s (Idle j skipped) = j < length s.jobs
IsScheduled s (Dismissal m) = m < s.initiators

-- how many blocks a stage waits for, or none if it waits for the code of one
abbrev pub block_count : SpoolFace → SchedulerStage → Option ℕ
block_count s (Entry j) = None
block_count s (Ends j) = Some (length (job_at s.jobs j).after)
block_count s (Idle j skipped) = Some s.initiators
block_count s (Dismissal m) = None

-- the task waits for this many blocks, or for one
abbrev pub AreBlocks : Option ℕ → Need → Type 0
AreBlocks None (need.Block e) = Unit {0}
AreBlocks (Some count) (need.Blocks b) = length b.ecbs.items ≡ count
AreBlocks count n = ⊥

-- this many blocks were found, or the code of one
abbrev pub AreSlots : Option ℕ → Got → Type 0
AreSlots None (got.Code code) = Unit {0}
AreSlots (Some count) (got.Slots found) = length found.items ≡ count
AreSlots count g = ⊥

-- the scheduler waits for what its stage says
pub record IsSchedulerNeed (s : SpoolFace) (stage : SchedulerStage) (n : Need) : Type 0 where
  pub numbers : IsScheduled s stage
  pub blocks : AreBlocks (block_count s stage) n
  pub may : MayMeet s.board.config scheduler n

-- the scheduler was given the answer that its stage says
pub record IsSchedulerAnswer (s : SpoolFace) (stage : SchedulerStage) (g : Got) : Type 0 where
  pub numbers : IsScheduled s stage
  pub slots : AreSlots (block_count s stage) g

-- the scheduler came to its next wait or to its end
abbrev pub SchedulerComes : SpoolFace → Call (List ℕ) → CallerFace → Result (Next SchedulerStage) Lost → CallerFace → Type 0
SchedulerComes s whole t next u = Comes s.board (scheduler_stages s) (IsSchedulerNeed s) [] whole t next u

-- the scheduler asks for this
abbrev pub SchedulerAsks : SpoolFace → Call (List ℕ) → ℕ → Next SchedulerStage → Type 0
SchedulerAsks s later most next = Asks s.board.config (scheduler_stages s) (IsSchedulerNeed s) [] later most next
