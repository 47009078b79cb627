-- An initiator that runs a job goes on with it, is done with it, or is lost; it touches no element and no initiator's block. What holds
-- of a job when it is started holds of it as long as it is run, or by how far its end is posted. Used by rows, deeds, right codes and
-- posts.
use Rattle.mv_plan.proofs.Words.{◌≡◌, ℕ, suc, ◌<◌, Bool, true, false, List, [], ◌∷◌, length, Option, Some, None, ◌⊎◌, inl, refl, subst}
use Rattle.mv_plan.proofs.Words.{arith, ◌==◌, Reply, JobData, Step, job_at, list_any, Named, job_named, ElementReply, common_steps, Print}
use Rattle.mv_plan.proofs.points.Points.{Point, At, Astray, Running, Hand, InitiatorAt, Pausing, Resuming, initiator_asks, initiator_goes}
use Rattle.mv_plan.proofs.points.Points.{steps_at, job_start, rounds_after, empty_hand, rounds_from, running, given_at, JobAt, InJob, OfJob}
use Rattle.mv_plan.proofs.points.Points.{EndPost, Ending, run_of, IsNotLost, given_lands, ended_lands, freeing_lands, counting_lands}
use Rattle.mv_plan.proofs.points.Points.{rounds_land}
use Rattle.mv_plan.proofs.points.Initiator.{IsRunning, IsInitiatorAt}
use Rattle.mv_plan.proofs.points.Programs.{on_posted_keeps}
use Rattle.mv_plan.proofs.points.Asks.{Elsewhere}

-- it runs this job, or is lost
abbrev pub RunsOn : Running → Point InitiatorAt → Type 0
RunsOn run p = (run_of p ≡ Some run) ⊎ (IsNotLost p → ⊥)

pub steps_run : (run : Running) (hand : Hand) (steps : List Step) → RunsOn run (steps_at run hand steps)
steps_run run hand [] = grind (arith, common_steps)
steps_run run hand (first ∷ steps) = grind (arith, common_steps, steps_run run hand steps)

pub start_run : (skipped : Bool) (run : Running) (job : JobData) → RunsOn run (job_start skipped run job)
start_run true run job = inl refl
start_run false run job = steps_run run empty_hand job.steps

-- what may follow
pub data GoesOn (run : Running) (p : Point InitiatorAt) : Type 0 where
  same : run_of p ≡ Some run → GoesOn run p
  done : p ≡ rounds_after run → GoesOn run p
  lost : (IsNotLost p → ⊥) → GoesOn run p

on_run : (run : Running) (p : Point InitiatorAt) → RunsOn run p → GoesOn run p
on_run run p x = grind (arith, common_steps)

one_run : (run run' : Running) → Some run ≡ Some run' → run ≡ run'
one_run run run' e = cc e

job_goes : (deck : List JobData) (run : Running) (w : JobAt) (r : Reply) → GoesOn run (initiator_goes deck (InJob run w) r)
job_goes deck run w r = grind (arith, common_steps, on_run, steps_run, ended_lands)

pub run_goes : (deck : List JobData) (x : InitiatorAt) (r : Reply) (run : Running) → run_of (At x) ≡ Some run
    → GoesOn run (initiator_goes deck x r)
run_goes deck (InJob run' w) r run e =
    subst (λ z. GoesOn z (initiator_goes deck (InJob run' w) r)) (one_run run' run e) (job_goes deck run' w r)
run_goes deck x r run e = absurd (cc e)

-- what it asks is elsewhere
pub run_asks : (n i : ℕ) (x : InitiatorAt) (run : Running) → run_of (At x) ≡ Some run → run.job < n → Elsewhere n (initiator_asks n i x).0
run_asks n i x run e lt = grind (arith, common_steps)

-- a running job is one of the deck's, and a sound round
pub run_sound : (deck : List JobData) (x : InitiatorAt) (run : Running) → run_of (At x) ≡ Some run → IsInitiatorAt deck (At x)
    → IsRunning (length deck) run
run_sound deck x run e s = grind (arith, common_steps)

-- ---- what holds of the job that is run

-- the job that a point runs, if it runs one, is so
abbrev pub OfRun : (Running → Type 0) → Point InitiatorAt → Type 0
OfRun Q p = (run : Running) → run_of p ≡ Some run → Q run

-- what is to be shown of a job that is given
abbrev StartsBy : (Running → Type 0) → List JobData → ℕ → List ℕ → ℕ → ℕ → Type 0
StartsBy Q deck more before code g =
    (named : Named) (left : ℕ) → job_named (length deck) code ≡ Some named → list_any (λ j. j == named.job) before ≡ false
    → more ≡ suc left → Q (running named before (suc left) g)

abbrev pub Starts : (Running → Type 0) → List JobData → InitiatorAt → Reply → Type 0
Starts Q deck (Pausing more before g) (Reply.Element (ElementReply.Given code now)) = StartsBy Q deck more before code now
Starts Q deck (Resuming more before g) (Reply.Element (ElementReply.Given code now)) = StartsBy Q deck more before code now
Starts Q deck x r = Unit {0}

module _ (Q : Running → Type 0) where
  no_run : {run : Running} → ◌≡◌ {A = Option Running} None (Some run) → Q run
  no_run e = absurd (cc e)

  rounds_run : (more : ℕ) (before : List ℕ) (g : ℕ) → OfRun Q (rounds_from more before g)
  rounds_run x before g run e = grind (arith, common_steps)

  goes_on_run : (run : Running) (p : Point InitiatorAt) → Q run → GoesOn run p → OfRun Q p
  goes_on_run run p q x other e = grind (arith, common_steps)

  none : OfRun Q Astray
  none other e = no_run e

  given_run : (deck : List JobData) (more : ℕ) (before : List ℕ) (code g : ℕ) → StartsBy Q deck more before code g
      → OfRun Q (given_at deck more before code g)
  given_run deck more before code g new = given_lands (OfRun Q) none deck more before code g (λ z other e. no_run e)
      (λ named left e t m. goes_on_run (running named before (suc left) g) _ (new named left e t m)
      (on_run _ _ (start_run named.skipped (running named before (suc left) g) (job_at deck named.job))))

  -- an initiator that runs no job
  starts_run : (deck : List JobData) (x : InitiatorAt) (r : Reply) → run_of (At x) ≡ None → Starts Q deck x r
      → OfRun Q (initiator_goes deck x r)
  starts_run deck x r e st = grind (arith, common_steps, rounds_run, on_posted_keeps, no_run, none, given_run)

  -- an initiator runs the job that it ran, or one that it was just given
  pub runs_goes : (deck : List JobData) (x : InitiatorAt) (r : Reply) → OfRun Q (At x) → Starts Q deck x r
      → OfRun Q (initiator_goes deck x r)
  runs_goes deck x r h st = go (run_of (At x)) refl where
    go : (slot : Option Running) → run_of (At x) ≡ slot → OfRun Q (initiator_goes deck x r)
    go None e = starts_run deck x r e st
    go (Some run) e = goes_on_run run (initiator_goes deck x r) (h run e) (run_goes deck x r run e)

-- ---- what holds of the job that an initiator runs, by how far its end is posted

-- The job that a point runs meets this with the post of its end that is next: with that of its done block until that is made.
abbrev pub ByStage : (EndPost → ℕ → Type 0) → Point InitiatorAt → Type 0
ByStage Q (At (InJob run (Ending post code counts))) = Q post run.job
ByStage Q (At (InJob run w)) = Q OfJob run.job
ByStage Q p = Unit {0}

-- the same of a point by others
pub stage_map : (Q Q' : EndPost → ℕ → Type 0) (p : Point InitiatorAt)
    → ((run : Running) → run_of p ≡ Some run → (post : EndPost) → Q post run.job → Q' post run.job) → ByStage Q p → ByStage Q' p
stage_map Q Q' p f h = grind (arith, common_steps)

-- a point that does not post a job's end
abbrev pub NotEnding : InitiatorAt → Type 0
NotEnding (InJob run (Ending post code counts)) = ⊥
NotEnding x = Unit {0}

module _ (Q : EndPost → ℕ → Type 0) where
  steps_stage : (run : Running) (hand : Hand) (steps : List Step) → Q OfJob run.job → ByStage Q (steps_at run hand steps)
  steps_stage run hand (Print text ∷ steps) q = steps_stage run hand steps q
  steps_stage run hand steps q = grind (arith, common_steps, freeing_lands)

  start_stage : (skipped : Bool) (run : Running) (job : JobData) → Q OfJob run.job → ByStage Q (job_start skipped run job)
  start_stage true run job q = q
  start_stage false run job q = steps_stage run empty_hand job.steps q

  pub stage_goes : (deck : List JobData) (x : InitiatorAt) (r : Reply) → NotEnding x → ByStage Q (At x)
      → Starts (λ run. Q OfJob run.job) deck x r → ByStage Q (initiator_goes deck x r)
  stage_goes deck (Pausing more before g) (Reply.Element (ElementReply.Given code now)) plain h st =
      given_lands (ByStage Q) tt deck more before code now (λ z. tt)
      (λ named left e t m. start_stage named.skipped _ (job_at deck named.job) (st named left e t m))
  stage_goes deck (Resuming more before g) (Reply.Element (ElementReply.Given code now)) plain h st =
      given_lands (ByStage Q) tt deck more before code now (λ z. tt)
      (λ named left e t m. start_stage named.skipped _ (job_at deck named.job) (st named left e t m))
  stage_goes deck x r plain h st = grind (arith, common_steps, rounds_land, on_posted_keeps, steps_stage, counting_lands)
