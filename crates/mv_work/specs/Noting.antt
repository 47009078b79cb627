-- An initiator's task as in the plan, that notes what it does: the same calls, and what is answered are the records.
use Rattle.std.specs.Prelude.{ℕ, zero, suc, ◌+◌, ◌==◌, Bool, true, false, List, [], ◌∷◌, ◌++◌, length, map, Option, Some, None}
use Rattle.std.specs.Prelude.{if◌then◌else◌}
use Rattle.mv_element.specs.declared.element.Token.{Token}
use Rattle.mv_latch.specs.declared.request.LatchForm.TheVariants.{Waiting}
use Rattle.mv_config.specs.Setup.{Setup}
use Rattle.mv_machine.specs.System.{with_at}
use Rattle.mv_calls.specs.Endings.{end_of_job}
use Rattle.mv_calls.specs.LatchCalls.{obtain}
use Rattle.mv_calls.specs.Pauses.{allocate, pause, deallocate}
use Rattle.mv_calls.specs.Posts.{post}
use Rattle.mv_calls.specs.Program.{Call, followed, accepted, finished, wrong}
use Rattle.mv_calls.specs.Waits.{read_volume}
use Rattle.mv_deck.specs.Deck.{JobData}
use Rattle.mv_deck.specs.declared.deck.Step.{Step}
use Rattle.mv_deck.specs.declared.deck.Step.TheVariants.{Print, Use, Free, Count, Scan, Abend, Return}
use Rattle.mv_deck.specs.EndCode.{not_run}
use Rattle.mv_plan.specs.Jobs.{job_at}
use Rattle.mv_plan.specs.SpoolSetup.{done, idle}
use Rattle.mv_plan.specs.SpoolTasks.{Named, granted_as, freed, counted, named_by, job_named}
use Rattle.mv_work.specs.declared.records.Noted.{Noted}
use Rattle.mv_work.specs.declared.records.Noted.TheVariants.{Printed, Scanned}
use Rattle.mv_work.specs.Records.{JobRecord}

-- a record of a job
abbrev pub record_of : ℕ → ℕ → List Noted → JobRecord
record_of job end notes = record { job = job; end = end; notes = notes }

-- The steps of a job from the one of this place on, where its requestor last had these requests at the latches and this is noted. A
-- PRINT is noted by its place, a SCAN by its place and the two numbers that were read.
abbrev pub steps_noted : Setup → ℕ → (ℕ → Option ℕ) → ℕ → List Noted → List Step → Call JobRecord
steps_noted c job requests place notes [] = finished (record_of job 0 notes)
steps_noted c job requests place notes (Print text ∷ steps) =
    steps_noted c job requests (place + 1) (notes ++ Printed place ∷ []) steps
steps_noted c job requests place notes (Use latch mode ∷ steps) =
    accepted (obtain c latch (job + 1) mode Waiting)
    (granted_as (λ id. steps_noted c job (with_at requests latch (Some id)) (place + 1) notes steps))
steps_noted c job requests place notes (Free latch ∷ steps) =
    freed c latch (requests latch) (steps_noted c job requests (place + 1) notes steps)
steps_noted c job requests place notes (Count v amount ∷ steps) =
    followed (read_volume v) (counted v amount (steps_noted c job requests (place + 1) notes steps))
steps_noted c job requests place notes (Scan v ∷ steps) =
    followed (read_volume v) (λ first. followed (read_volume v) (λ second.
    steps_noted c job requests (place + 1) (notes ++ Scanned place first second ∷ []) steps))
steps_noted c job requests place notes (Abend code ∷ steps) = finished (record_of job code notes)
steps_noted c job requests place notes (Return code ∷ steps) = finished (record_of job code notes)

-- of a job that is not to be run there is nothing to note
abbrev pub all_steps_noted : Setup → JobData → ℕ → Bool → Call JobRecord
all_steps_noted c data_of_job job true = finished (record_of job not_run [])
all_steps_noted c data_of_job job false = steps_noted c job (λ latch. None) 0 [] data_of_job.steps

-- a job: its steps, and its end with the code that they ended with
abbrev pub job_noted : Setup → List JobData → Named → Call JobRecord
job_noted c deck named =
    followed (all_steps_noted c (job_at deck named.job) named.job named.skipped) (λ r.
    followed (end_of_job c (named.job + 1) (done (length deck) named.job) r.end) (λ counts. finished r))

-- the rounds of an initiator, where these are the records of the jobs that it ran
abbrev pub rounds_noted : Setup → List JobData → ℕ → ℕ → List JobRecord → Token → Call (List JobRecord)
rounds_noted c deck i zero records token = wrong
rounds_noted c deck i (suc more) records token =
    followed (post c (idle (length deck) i) token.generation) (λ posted.
    accepted (pause c token) (λ gift.
    if gift.code == 0 then accepted (deallocate c gift.next) (λ closed. finished records)
    else named_by (job_named (length deck) gift.code) (map (λ r. r.job) records) more (λ named.
    followed (job_noted c deck named) (λ r. rounds_noted c deck i more (records ++ r ∷ []) gift.next))))

-- an initiator; what it answers are the records of the jobs that it ran, in order
abbrev pub initiating_noted : Setup → List JobData → ℕ → Call (List JobRecord)
initiating_noted c deck i = accepted (allocate c) (rounds_noted c deck i (length deck + 1) [])
