-- An initiator, wait by wait.
use Rattle.std.specs.Prelude.{◌≡◌, ℕ, suc, ◌+◌, ◌-◌, ◌*◌, ◌==◌, ◌<◌, ◌≤◌, Bool, true, false, List, [], ◌∷◌, ◌++◌, length, map, drop}
use Rattle.std.specs.Prelude.{Option, Some, Result, sum_by, slice_index_or, if◌then◌else◌}
use Rattle.std.specs.List.{list_any}
use Rattle.mv_board.specs.Faces.{CallerFace}
use Rattle.mv_element.specs.declared.element.Token.{Token}
use Rattle.mv_config.specs.Limits.{highest_generation}
use Rattle.mv_config.specs.Setup.{Setup}
use Rattle.mv_machine.specs.System.{with_at}
use Rattle.mv_calls.specs.Endings.{end_of_job}
use Rattle.mv_calls.specs.declared.outcomes.Given.{Given}
use Rattle.mv_calls.specs.Pauses.{deallocate}
use Rattle.mv_calls.specs.Program.{Call, accepted, finished, followed}
use Rattle.mv_deck.specs.declared.deck.Step.{Step}
use Rattle.mv_deck.specs.declared.deck.Step.TheVariants.{Print, Scan}
use Rattle.mv_deck.specs.Deck.{JobData}
use Rattle.mv_deck.specs.Operand.{highest_latch}
use Rattle.mv_deck.specs.Weight.{step_events}
use Rattle.mv_plan.specs.Jobs.{job_at}
use Rattle.mv_plan.specs.SpoolSetup.{done, initiator}
use Rattle.mv_plan.specs.SpoolTasks.{Named, named_by, job_named}
use Rattle.mv_work.specs.declared.initiator.Initiator.{Initiator}
use Rattle.mv_work.specs.declared.need.Got.{Got}
use Rattle.mv_work.specs.declared.need.Got.TheVariants as got
use Rattle.mv_work.specs.declared.lost.Lost.{Lost}
use Rattle.mv_work.specs.declared.need.Need.{Need}
use Rattle.mv_work.specs.declared.next.Next.{Next}
use Rattle.mv_work.specs.declared.need.Need.TheVariants as need
use Rattle.mv_work.specs.declared.stage.InitiatorStage.{InitiatorStage}
use Rattle.mv_work.specs.declared.stage.InitiatorStage.TheVariants.{Pause, Latch}
use Rattle.mv_work.specs.declared.stage.Running.{Running}
use Rattle.mv_work.specs.Needs.{Answer, on_gift, on_grant}
use Rattle.mv_work.specs.Noting.{job_noted, rounds_noted, steps_noted}
use Rattle.mv_work.specs.Records.{JobRecord}
use Rattle.mv_work.specs.Spool.{SpoolFace}
use Rattle.mv_work.specs.Steps.{AreKept, requests_of}
use Rattle.mv_work.specs.Waiting.{Comes, Stages}

-- ---- what is left to do

-- the jobs that these records are of
abbrev pub jobs_of_records : List JobRecord → List ℕ
jobs_of_records records = map (λ r. r.job) records

-- what follows a code that names a job, if this many more may be given
abbrev pub job_then : Setup → List JobData → ℕ → ℕ → List JobRecord → Token → Named → Call (List JobRecord)
job_then c deck me more records next named =
    followed (job_noted c deck named) (λ r. rounds_noted c deck me more (records ++ r ∷ []) next)

-- the same for an initiator of the spool
abbrev pub named_then : SpoolFace → Initiator → ℕ → Token → Named → Call (List JobRecord)
named_then s me more next = job_then s.board.config s.jobs me.index more me.noted.jobs next

-- what follows a code
abbrev pub given_then : SpoolFace → Initiator → ℕ → Given → Call (List JobRecord)
given_then s me more gift =
    if gift.code == 0 then accepted (deallocate s.board.config gift.next) (λ closed. finished me.noted.jobs)
    else named_by (job_named (length s.jobs) gift.code) (jobs_of_records me.noted.jobs) more (named_then s me more gift.next)

-- how many rounds may follow this one
abbrev pub rounds_after : SpoolFace → ℕ → ℕ
rounds_after s round = suc (length s.jobs - (round + 1))

-- what follows the steps of a job
abbrev pub steps_then : SpoolFace → Initiator → Running → JobRecord → Call (List JobRecord)
steps_then s me r noted = followed (end_of_job s.board.config (r.job + 1) (done (length s.jobs) r.job) noted.end)
    (λ counts. rounds_noted s.board.config s.jobs me.index (rounds_after s r.round.number) (me.noted.jobs ++ noted ∷ []) r.round.next)

-- the steps of a job from this one on, and what follows them
abbrev pub steps_from : SpoolFace → Initiator → Running → ℕ → (ℕ → Option ℕ) → Call (List JobRecord)
steps_from s me r place requests =
    followed (steps_noted s.board.config r.job requests place me.noted.notes (drop place (job_at s.jobs r.job).steps)) (steps_then s me r)

-- what is left to do after the answer
abbrev pub initiator_left : SpoolFace → Initiator → InitiatorStage → Answer → Call (List JobRecord)
initiator_left s me (Pause round) = on_gift (given_then s me (length s.jobs - round))
initiator_left s me (Latch r) = on_grant (λ id. steps_from s me r r.step (with_at (requests_of r.requests) r.latch (Some id)))

-- ---- events and marks that may be made

-- the marks that are made of a step: one of a PRINT or a SCAN
abbrev pub step_marks : Step → ℕ
step_marks (Print text) = 1
step_marks (Scan volume) = 1
step_marks other = 0

-- the marks of these steps
abbrev pub steps_marks : List Step → ℕ
steps_marks steps = sum_by step_marks steps

-- the events that these steps may make
abbrev pub steps_events : List Step → ℕ
steps_events steps = sum_by step_events steps

-- the sum over the jobs that were not given yet
abbrev pub left_of : (JobData → ℕ) → List Bool → List JobData → ℕ
left_of f (false ∷ given) (job ∷ jobs) = f job + left_of f given jobs
left_of f (true ∷ given) (job ∷ jobs) = left_of f given jobs
left_of f given jobs = 0

-- the events of the steps of the jobs that were not given yet
abbrev pub events_left : List Bool → List JobData → ℕ
events_left = left_of (λ job. steps_events job.steps)

-- the marks of a job: those of its steps, and its end
abbrev pub job_marks : JobData → ℕ
job_marks job = steps_marks job.steps + 1

-- the marks of the jobs that were not given yet
abbrev pub marks_left : List Bool → List JobData → ℕ
marks_left = left_of job_marks

-- the events from a round on
abbrev pub rounds_due : SpoolFace → Initiator → ℕ → ℕ
rounds_due s me round = 4 + 7 * (length s.jobs - round) + events_left me.given.items s.jobs

-- the events after the answer
abbrev pub initiator_due : SpoolFace → Initiator → InitiatorStage → ℕ
initiator_due s me (Pause round) = 1 + 7 * (length s.jobs - round) + events_left me.given.items s.jobs
initiator_due s me (Latch r) = steps_events (drop r.step (job_at s.jobs r.job).steps) + 4 + rounds_due s me (r.round.number + 1)

-- what an initiator has left at each stage
abbrev pub initiator_stages : SpoolFace → Initiator → Stages InitiatorStage (List JobRecord)
initiator_stages s me = record { then = initiator_left s me; due = initiator_due s me }

-- ---- numbers in their ranges

-- these are the jobs that were given
pub record AreGiven (jobs : List ℕ) (given : List Bool) : Type 0 where
  pub each : (j : ℕ) → j < length given → list_any (λ m. m == j) jobs ≡ slice_index_or given j false

-- a token of the initiator's element
abbrev pub IsOwn : Initiator → Token → Type 0
IsOwn me token = (token.element ≡ initiator me.index) × (token.generation ≤ highest_generation)

-- an initiator between two jobs, in the round of this number
pub record IsBetween (s : SpoolFace) (me : Initiator) (r : ℕ) : Type 0 where
  pub index : me.index < s.initiators
  pub round : r ≤ length s.jobs
  pub size : length me.given.items ≡ length s.jobs
  pub given : AreGiven (jobs_of_records me.noted.jobs) me.given.items
  pub none : me.noted.notes ≡ []
  pub room : marks_left me.given.items s.jobs ≤ me.noted.room

-- an initiator that runs job j, in the round of this number, with this many marks of its steps to make
pub record IsAtJob (s : SpoolFace) (me : Initiator) (r j marks : ℕ) : Type 0 where
  pub index : me.index < s.initiators
  pub round : r < length s.jobs
  pub job : j < length s.jobs
  pub size : length me.given.items ≡ length s.jobs
  pub given : AreGiven (jobs_of_records me.noted.jobs ++ j ∷ []) me.given.items
  pub room : marks + 1 + marks_left me.given.items s.jobs ≤ me.noted.room

-- a job that is run, from its next step on
pub record IsRunning (s : SpoolFace) (me : Initiator) (r : Running) : Type 0 where
  pub at : IsAtJob s me r.round.number r.job (steps_marks (drop r.step (job_at s.jobs r.job).steps))
  pub next : IsOwn me r.round.next
  pub kept : AreKept r.requests

-- an initiator that waits at this stage
abbrev pub IsInitiating : SpoolFace → Initiator → InitiatorStage → Type 0
IsInitiating s me (Pause round) = IsBetween s me round
IsInitiating s me (Latch r) = IsRunning s me r × (r.latch ≤ highest_latch)

-- the initiator waits for what its stage says
abbrev pub IsInitiatorNeed : SpoolFace → Initiator → InitiatorStage → Need → Type 0
IsInitiatorNeed s me (Pause round) (need.Pause token) = IsInitiating s me (Pause round) × IsOwn me token
IsInitiatorNeed s me (Latch r) (need.Latch latch requestor mode) = IsInitiating s me (Latch r) × (latch ≡ r.latch)
IsInitiatorNeed s me stage n = ⊥

-- the initiator was given the answer that its stage says
abbrev pub IsInitiatorAnswer : SpoolFace → Initiator → InitiatorStage → Got → Type 0
IsInitiatorAnswer s me (Pause round) (got.Given given) = IsInitiating s me (Pause round) × IsOwn me given.next
IsInitiatorAnswer s me (Latch r) (got.Granted token) = IsInitiating s me (Latch r) × (token.latch ≡ r.latch)
IsInitiatorAnswer s me stage g = ⊥

-- the initiator came to its next wait or to its end
abbrev pub InitiatorComes : SpoolFace → Initiator → Call (List JobRecord) → CallerFace → Result (Next InitiatorStage) Lost → CallerFace
    → Type 0
InitiatorComes s me whole t next u =
    Comes s.board (initiator_stages s me) (IsInitiatorNeed s me) me.noted.jobs whole t next u
