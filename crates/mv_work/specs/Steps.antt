-- The steps of a job.
use Rattle.std.specs.Prelude.{◌≡◌, ℕ, ◌+◌, ◌<◌, ◌≤◌, List, ◌∷◌, length, slice_index_or, option_map, Option, Some, None, Result, Ok, Err}
use Rattle.mv_board.specs.Faces.{CallerFace}
use Rattle.mv_calls.specs.Program.{Done, Wrong}
use Rattle.mv_deck.specs.declared.deck.Step.{Step}
use Rattle.mv_deck.specs.declared.deck.Step.TheVariants.{Return, Use}
use Rattle.mv_deck.specs.EndCode.{not_run}
use Rattle.mv_deck.specs.Operand.{volume_count, highest_latch}
use Rattle.mv_latchset.specs.declared.token.LatchToken.{LatchToken}
use Rattle.mv_config.specs.Reach.{release_cost}
use Rattle.mv_config.specs.Setup.{Setup}
use Rattle.mv_plan.specs.Jobs.{job_at}
use Rattle.mv_work.specs.declared.lost.Lost.{Lost}
use Rattle.mv_work.specs.declared.records.Noted.{Noted}
use Rattle.mv_work.specs.declared.running.Did.{Did}
use Rattle.mv_work.specs.declared.running.Did.TheVariants as did
use Rattle.mv_work.specs.Noting.{record_of, steps_noted}
use Rattle.mv_work.specs.Ran.{Leads, Ran}
use Rattle.mv_work.specs.Spool.{SpoolFace}

-- the configuration has the latches and volumes that steps may name, and a release makes one event
abbrev pub BearsSteps : Setup → Type 0
BearsSteps c = (c.latches ≡ volume_count) × (c.volumes ≡ volume_count) × (release_cost c ≡ 1)

-- the numbers of the requests that a job last had at the latches
abbrev pub requests_of : List (Option LatchToken) → ℕ → Option ℕ
requests_of tokens latch = option_map (λ t. t.id) (slice_index_or tokens latch None)

-- there is room for each latch, and each token is of its latch
pub record AreKept (tokens : List (Option LatchToken)) : Type 0 where
  pub count : length tokens ≡ volume_count
  pub own : (latch : ℕ) (t : LatchToken) → slice_index_or tokens latch None ≡ Some t → t.latch ≡ latch

-- the step of a job at this place; at a place after the last it means nothing
abbrev pub step_at : SpoolFace → ℕ → ℕ → Step
step_at s job place = slice_index_or (job_at s.jobs job).steps place (Return 0)

-- The step at this place was done, whatever steps follow it: with what is noted now they are what is left to do; or the job has
-- ended with this code; or it is a USE, whose latch is still to be obtained; or the task is lost.
abbrev pub DoesStep : Setup → ℕ → List (Option LatchToken) → ℕ → List Noted → Step → Result Did Lost → List Noted → CallerFace
    → CallerFace → Type 0
DoesStep c job tokens place notes step (Ok did.Went) after t u = (steps : List Step)
    → Leads (steps_noted c job (requests_of tokens) place notes (step ∷ steps))
    (steps_noted c job (requests_of tokens) (place + 1) after steps) t u
DoesStep c job tokens place notes step (Ok (did.Ended end)) after t u = (steps : List Step)
    → Ran (steps_noted c job (requests_of tokens) place notes (step ∷ steps)) (Done (record_of job end after)) t u
DoesStep c job tokens place notes step (Ok (did.Asks latch mode)) after t u =
    (step ≡ Use latch mode) × (after ≡ notes) × (u ≡ t)
DoesStep c job tokens place notes step (Err lost) after t u = (steps : List Step)
    → Ran (steps_noted c job (requests_of tokens) place notes (step ∷ steps)) Wrong t u

-- the end of a job is one, and a latch that is asked for is there
abbrev pub IsGoodDid : Did → Type 0
IsGoodDid did.Went = Unit {0}
IsGoodDid (did.Ended end) = end < not_run
IsGoodDid (did.Asks latch mode) = latch ≤ highest_latch
