-- Where an initiator may stand: its rounds, the steps that are left of its job, the latches in its hand, the code that it ends
-- with; and what it keeps there. Kept by each of its steps, whatever the reply. And its program goes from point to point.
use Rattle.std.specs.Option.{option_or}
use Rattle.mv_plan.proofs.Words.{◌≡◌, ℕ, suc, ◌+◌, ◌<◌, ◌≤◌, ◌==◌, Bool, true, false, not, if◌then◌else◌, List, [], ◌∷◌, ◌++◌, length, map}
use Rattle.mv_plan.proofs.Words.{filter, Option, Some, refl, ap, ◌∙◌, subst, append_assoc, arith, AllByRecursion, list_any, eqb-true, Mode}
use Rattle.mv_plan.proofs.Words.{false≢true, length-append, Reply, with_at, JobData, Step, Print, Use, Count, Scan, Abend, Return, job_at}
use Rattle.mv_plan.proofs.Words.{not_run, own_end, AreDistinct, Kept, nothing_kept, initiator, Named, job_named, code_of, all_push, Free}
use Rattle.mv_plan.proofs.Words.{ElementReply, LatchReply, LatchForm, common_steps, rules, VolumeReply, zero, ◌-◌, nat_lt, ◌&&◌, None, Ok}
use Rattle.mv_plan.proofs.Words.{lt-ltb, Wake, Latches, Setup, obtained, token_of, deallocate, Woke, each_posted, posted_next, post_within}
use Rattle.mv_plan.proofs.Words.{wake_posted, Program, Do, Done, Heard, asks, heard, and_then, going_on, unrefused, accepted, followed, Op}
use Rattle.mv_plan.proofs.Words.{finished, unless_refused, on_latch, end_for_scheduler, end_for_writer, named_by, run_job, granted_as, done}
use Rattle.mv_plan.proofs.Words.{rounds, refused_if, EcbReply, LatchOp, Purged, sym}
use Rattle.mv_machine.specs.Kept.{StandingRequest, is_named, is_for, less}
use Rattle.mv_plan.proofs.deck.{Held, is_held, ArePlannedSteps, ArePlannedJobs, sound_job, Facts}
use Rattle.mv_plan.proofs.points.Points.{Point, At, Grant, Running, Hand, hand_with, without_latch, hand_without, hand_at, InitiatorAt}
use Rattle.mv_plan.proofs.points.Points.{Opening, Offering, Pausing, Resuming, Obtaining, Confirming, Freeing, Reading, ToAdd, Writing}
use Rattle.mv_plan.proofs.points.Points.{Compares, Purging, Ending, initiator_asks, initiator_goes, rounds_after, steps_at, running, InJob}
use Rattle.mv_plan.proofs.points.Points.{job_start, given_at, Astray, empty_hand, ToCompare, OfJob, Closing, rounds_from, named_at}
use Rattle.mv_plan.proofs.points.Points.{rounds_land, given_lands, ForScheduler, ForWriter, freeing_at, IsNotLost}
use Rattle.mv_plan.proofs.points.Programs.{keeps, program_at, rounds_later, given_later, ending, stepping, steps_later, obtained_later}
use Rattle.mv_plan.proofs.points.Programs.{initiator_program, post_is_now, IsPlainPost}
use Rattle.mv_calls.specs.LatchCalls.{obtain_refusal}
use Rattle.mv_calls.specs.Pauses.{gift_of, allocate}
use Rattle.mv_calls.specs.Posts.{wakes_posted}
use Rattle.mv_calls.specs.Program.{wrong}
use Rattle.mv_calls.specs.Refusal as refusal
use Rattle.mv_plan.specs.SpoolTasks.{job_done}

-- ---- rounds

-- the jobs that were named before are different jobs of the n, and with the rounds that are left there are n
pub record IsRound (n more : ℕ) (before : List ℕ) : Type 0 where
  pub count : length before + more ≡ n
  pub below : AllByRecursion (λ j. j < n) before
  pub distinct : AreDistinct before

-- so are the jobs that were named before the running one, and it
pub record IsRunning (n : ℕ) (run : Running) : Type 0 where
  pub round : IsRound n run.more run.before
  pub job : run.job < n
  pub new : list_any (λ j. j == run.job) run.before ≡ false

-- the code that a job is to end with, once an initiator has it
abbrev pub IsEnd : List JobData → Running → ℕ → Type 0
IsEnd deck run code = code ≡ (if run.skipped then not_run else own_end (job_at deck run.job).steps)

-- ---- steps

abbrev pub IsNoEnd : Step → Type 0
IsNoEnd (Abend code) = ⊥
IsNoEnd (Return code) = ⊥
IsNoEnd step = Unit {0}

-- these are the running job's steps behind others, none of which ended the job
pub record AreLeft (deck : List JobData) (run : Running) (steps : List Step) : Type 0 where
  pub past : List Step
  pub whole : past ++ steps ≡ (job_at deck run.job).steps
  pub going : AllByRecursion IsNoEnd past
  pub runs : run.skipped ≡ false

-- the latches that it holds, as the deck's soundness sees them
abbrev pub held_of : List Grant → List Held
held_of gs = map (λ g. record { latch = g.latch; mode = g.mode }) gs

-- latches rise
abbrev pub Rises : ℕ → List Grant → Type 0
Rises low [] = Unit {0}
Rises low (g ∷ gs) = (low ≤ g.latch) × Rises (g.latch + 1) gs

-- the latches that are held rise, and the request that it last had at each is the one that holds it
pub record IsHand (hand : Hand) : Type 0 where
  pub rises : Rises 0 hand.holding
  pub last : AllByRecursion (λ g. hand.requests g.latch ≡ Some g.id) hand.holding

pub record IsStepping (deck : List JobData) (run : Running) (hand : Hand) (steps : List Step) : Type 0 where
  pub round : IsRunning (length deck) run
  pub holds : IsHand hand
  pub left : AreLeft deck run steps
  pub sound : ArePlannedSteps (held_of hand.holding) steps

pub record IsEnding (deck : List JobData) (run : Running) (code : ℕ) : Type 0 where
  pub round : IsRunning (length deck) run
  pub end : IsEnd deck run code

abbrev pub IsInitiatorAt : List JobData → Point InitiatorAt → Type 0
IsInitiatorAt deck (At Opening) = Unit {0}
IsInitiatorAt deck (At (Offering more before g)) = IsRound (length deck) more before
IsInitiatorAt deck (At (Pausing more before g)) = IsRound (length deck) more before
IsInitiatorAt deck (At (Resuming more before g)) = IsRound (length deck) more before
IsInitiatorAt deck (At (InJob run (Obtaining hand latch mode steps))) = IsStepping deck run hand (Use latch mode ∷ steps)
IsInitiatorAt deck (At (InJob run (Confirming hand latch mode id steps))) = IsStepping deck run hand (Use latch mode ∷ steps)
IsInitiatorAt deck (At (InJob run (Freeing hand latch id steps))) =
    IsStepping deck run hand (Free latch ∷ steps) × (hand.requests latch ≡ Some id)
IsInitiatorAt deck (At (InJob run (Reading hand volume (ToAdd amount) steps))) = IsStepping deck run hand (Count volume amount ∷ steps)
IsInitiatorAt deck (At (InJob run (Writing hand volume amount number steps))) = IsStepping deck run hand (Count volume amount ∷ steps)
IsInitiatorAt deck (At (InJob run (Reading hand volume ToCompare steps))) = IsStepping deck run hand (Scan volume ∷ steps)
IsInitiatorAt deck (At (InJob run (Reading hand volume (Compares number) steps))) = IsStepping deck run hand (Scan volume ∷ steps)
IsInitiatorAt deck (At (InJob run (Purging hand code))) = IsEnding deck run code
IsInitiatorAt deck (At (InJob run (Ending post code counts))) = IsEnding deck run code
IsInitiatorAt deck p = Unit {0}

-- ---- what it keeps

-- the requests of the running job that stand
abbrev pub standing_one : ℕ → ℕ → Grant → StandingRequest
standing_one k job g =
    record { latch = g.latch; request = record { id = g.id; caller = k; requestor = job + 1; mode = g.mode; form = LatchForm.Waiting } }

abbrev pub standing_of : ℕ → ℕ → List Grant → List StandingRequest
standing_of k job gs = map (standing_one k job) gs

pub record InitiatorKept (i : ℕ) (requests : List StandingRequest) (kept : Kept) : Type 0 where
  pub caller : kept.caller ≡ initiator i
  pub stand : kept.requests ≡ requests

abbrev pub InitiatorKeptAt : ℕ → Kept → Point InitiatorAt → Type 0
InitiatorKeptAt i kept (At Opening) = kept ≡ nothing_kept (initiator i)
InitiatorKeptAt i kept (At (InJob run (Confirming hand latch mode id steps))) =
    InitiatorKept i (standing_of (initiator i) run.job (hand_with hand latch mode id).holding) kept
InitiatorKeptAt i kept (At (InJob run w)) = InitiatorKept i (standing_of (initiator i) run.job (hand_at w).holding) kept
InitiatorKeptAt i kept (At x) = InitiatorKept i [] kept
InitiatorKeptAt i kept p = Unit {0}

abbrev pub InitiatorStands : List JobData → ℕ → Kept → Point InitiatorAt → Type 0
InitiatorStands deck i kept p = IsInitiatorAt deck p × InitiatorKeptAt i kept p

-- ---- codes and their jobs

pub named_is : (n code : ℕ) (named : Named) → job_named n code ≡ Some named → (named.job < n) × (code ≡ code_of named.job named.skipped)
named_is n code named e = grind (arith, common_steps)

-- ---- ends

pub own_end_left : (past steps : List Step) → AllByRecursion IsNoEnd past → own_end (past ++ steps) ≡ own_end steps
own_end_left [] steps g = grind (arith, common_steps)
own_end_left (step ∷ past) steps g = grind (arith, common_steps, own_end_left past)

-- one step was done
pub left_next : (deck : List JobData) (run : Running) (step : Step) (steps : List Step) → IsNoEnd step → AreLeft deck run (step ∷ steps)
    → AreLeft deck run steps
left_next deck run step steps s l =
    record {
      past = l.past ++ step ∷ [];
      whole = append_assoc l.past (step ∷ []) steps ∙ l.whole;
      going = all_push IsNoEnd l.past step l.going s;
      runs = l.runs;
    }

step_done : (deck : List JobData) (run : Running) (hand : Hand) (step : Step) (steps : List Step) → IsNoEnd step
    → ArePlannedSteps (held_of hand.holding) steps → IsStepping deck run hand (step ∷ steps) → IsStepping deck run hand steps
step_done deck run hand step steps goes sound s = grind (arith, common_steps, left_next)

-- the code of the job's end, at the step that ends it
pub left_end : (deck : List JobData) (run : Running) (steps : List Step) → AreLeft deck run steps → IsEnd deck run (own_end steps)
left_end deck run steps l = grind (arith, common_steps, own_end_left)

-- ---- hands

rises_less : (low high : ℕ) (gs : List Grant) → low ≤ high → Rises high gs → Rises low gs
rises_less low high [] le r = tt
rises_less low high (g ∷ gs) le r = (omega arith, r.1)

rises_push : (low latch : ℕ) (mode : Mode) (id : ℕ) (gs : List Grant) → Rises low gs → low ≤ latch
    → AllByRecursion (λ h. h.latch < latch) (held_of gs) → Rises low (gs ++ record { latch = latch; mode = mode; id = id } ∷ [])
rises_push low latch mode id [] r le b = (le, tt)
rises_push low latch mode id (g ∷ gs) r le b = (r.0, rises_push (g.latch + 1) latch mode id gs r.1 (let lt = b.0 in omega arith) b.1)

rises_without : (low latch : ℕ) (gs : List Grant) → Rises low gs → Rises low (without_latch latch gs)
rises_without low latch [] r = tt
rises_without low latch (g ∷ gs) r = grind (arith, common_steps, rises_less, rises_without (g.latch + 1) latch gs r.1)

-- those that are held below a latch are not more than it
pub rises_few : (low latch : ℕ) (gs : List Grant) → Rises low gs → low ≤ latch → AllByRecursion (λ h. h.latch < latch) (held_of gs)
    → low + length gs ≤ latch
rises_few low latch [] r le b = omega arith
rises_few low latch (g ∷ gs) r le b =
    let lt = b.0 in let at = r.0 in
    let few = rises_few (g.latch + 1) latch gs r.1 (omega arith) b.1 in omega arith

last_push : (requests : ℕ → Option ℕ) (latch : ℕ) (mode : Mode) (id : ℕ) (gs : List Grant)
    → AllByRecursion (λ g. requests g.latch ≡ Some g.id) gs → AllByRecursion (λ h. h.latch < latch) (held_of gs)
    → AllByRecursion (λ g. with_at requests latch (Some id) g.latch ≡ Some g.id)
    (gs ++ record { latch = latch; mode = mode; id = id } ∷ [])
last_push requests latch mode id [] l b = grind (arith, common_steps)
last_push requests latch mode id (g ∷ gs) l b = grind (arith, common_steps, last_push requests latch mode id gs)

last_without : (requests : ℕ → Option ℕ) (latch : ℕ) (gs : List Grant) → AllByRecursion (λ g. requests g.latch ≡ Some g.id) gs
    → AllByRecursion (λ g. requests g.latch ≡ Some g.id) (without_latch latch gs)
last_without requests latch [] l = grind (arith, common_steps)
last_without requests latch (g ∷ gs) l = grind (arith, common_steps, last_without requests latch gs)

pub hand_push : (hand : Hand) (latch : ℕ) (mode : Mode) (id : ℕ) → IsHand hand
    → AllByRecursion (λ h. h.latch < latch) (held_of hand.holding) → IsHand (hand_with hand latch mode id)
hand_push hand latch mode id h b = grind (arith, common_steps, rises_push, last_push)

pub hand_less : (hand : Hand) (latch : ℕ) → IsHand hand → IsHand (hand_without hand latch)
hand_less hand latch h = grind (arith, common_steps, rises_without, last_without)

pub held_push : (gs : List Grant) (latch : ℕ) (mode : Mode) (id : ℕ)
    → held_of (gs ++ record { latch = latch; mode = mode; id = id } ∷ []) ≡ held_of gs ++ record { latch = latch; mode = mode } ∷ []
held_push [] latch mode id = refl
held_push (g ∷ gs) latch mode id = ap (λ hs. record { latch = g.latch; mode = g.mode } ∷ hs) (held_push gs latch mode id)

pub held_without : (gs : List Grant) (latch : ℕ) → held_of (without_latch latch gs) ≡ filter (λ h. not (is_held latch h)) (held_of gs)
held_without [] latch = refl
held_without (g ∷ gs) latch = grind (arith, common_steps, held_without gs latch)

pub standing_without : (k job latch id : ℕ) (requests : ℕ → Option ℕ) (gs : List Grant)
    → AllByRecursion (λ g. requests g.latch ≡ Some g.id) gs → requests latch ≡ Some id
    → less (is_named latch id) (standing_of k job gs) ≡ standing_of k job (without_latch latch gs)
standing_without k job latch id requests [] l e = grind (arith, common_steps)
standing_without k job latch id requests (g ∷ gs) l e = grind (arith, common_steps, standing_without k job latch id requests gs)

pub standing_purged : (k job : ℕ) (gs : List Grant) → less (is_for (job + 1)) (standing_of k job gs) ≡ []
standing_purged k job [] = refl
standing_purged k job (g ∷ gs) = grind (arith, common_steps, standing_purged k job gs)

-- a latch that is held has a request that it last had there
pub held_request : (requests : ℕ → Option ℕ) (latch : ℕ) (gs : List Grant) → AllByRecursion (λ g. requests g.latch ≡ Some g.id) gs
    → list_any (is_held latch) (held_of gs) ≡ true → (id : ℕ) × (requests latch ≡ Some id)
held_request requests latch [] l h = absurd (false≢true h)
held_request requests latch (g ∷ gs) l h = go (g.latch == latch) refl (λ t. held_request requests latch gs l.1 t) where
  go : (b : Bool) → (g.latch == latch) ≡ b → (list_any (is_held latch) (held_of gs) ≡ true → (id : ℕ) × (requests latch ≡ Some id))
      → (id : ℕ) × (requests latch ≡ Some id)
  go true e rest = (g.id, subst (λ k. requests k ≡ Some g.id) (eqb-true g.latch latch e) l.0)
  go false e rest = rest (rw e at h)

-- sound steps begin with one that the initiator can make
pub steps_found : (run : Running) (hand : Hand) (steps : List Step)
    → AllByRecursion (λ g. hand.requests g.latch ≡ Some g.id) hand.holding → ArePlannedSteps (held_of hand.holding) steps
    → IsNotLost (steps_at run hand steps)
steps_found run hand (Print text ∷ steps) l s = steps_found run hand steps l s
steps_found run hand (Free latch ∷ steps) l s =
    let h : (id : ℕ) × (hand.requests latch ≡ Some id) = held_request hand.requests latch hand.holding l s.1 in
    subst (λ z. IsNotLost (freeing_at run hand latch z steps)) (sym h.1) tt
steps_found run hand steps l s = tt

-- ---- each point's next stands

pub job_sound : (j k : ℕ) (jobs : List JobData) → ArePlannedJobs k jobs → j < length jobs → ArePlannedSteps [] (job_at jobs j).steps
job_sound j k jobs s lt = (sound_job k jobs j s lt).steps

distinct_push : (ks : List ℕ) (job : ℕ) → AreDistinct ks → list_any (λ j. j == job) ks ≡ false → AreDistinct (ks ++ job ∷ [])
distinct_push [] job d n = grind (arith, common_steps)
distinct_push (k ∷ ks) job d n = grind (arith, common_steps, distinct_push ks)

pub round_next : (n more : ℕ) (run : Running) → run.more ≡ suc more → IsRunning n run → IsRound n more (run.before ++ run.job ∷ [])
round_next n more run e r = grind (arith, common_steps, length-append, all_push, distinct_push)

module _ (deck : List JobData) (i : ℕ) (sound : ArePlannedJobs 0 deck) (kept : Kept) where
  rounds_stand : (run : Running) → IsRunning (length deck) run → InitiatorKept i [] kept → InitiatorStands deck i kept (rounds_after run)
  rounds_stand run r k = rounds_land (InitiatorStands deck i kept) (tt, tt) run.more (run.before ++ run.job ∷ []) run.generation
      (λ m e. (round_next (length deck) m run e r, k))

  pub steps_stand : (run : Running) (hand : Hand) (steps : List Step) → IsStepping deck run hand steps
      → InitiatorKept i (standing_of (initiator i) run.job hand.holding) kept
      → InitiatorStands deck i kept (steps_at run hand steps)
  steps_stand run hand [] s k = (record { round = s.round; end = left_end deck run [] s.left }, k)
  steps_stand run hand (Print text ∷ steps) s k = steps_stand run hand steps (step_done deck run hand (Print text) steps tt s.sound s) k
  steps_stand run hand (Free latch ∷ steps) s k = grind (arith, common_steps)
  steps_stand run hand (Abend code ∷ steps) s k = (record { round = s.round; end = left_end deck run (Abend code ∷ steps) s.left }, k)
  steps_stand run hand (Return code ∷ steps) s k = (record { round = s.round; end = left_end deck run (Return code ∷ steps) s.left }, k)
  steps_stand run hand (step ∷ steps) s k = (s, k)

  start_stands : (named : Named) (skipped : Bool) (before : List ℕ) (more g : ℕ) → named.skipped ≡ skipped → named.job < length deck
      → list_any (λ j. j == named.job) before ≡ false → IsRound (length deck) more before
      → InitiatorKept i [] kept → InitiatorStands deck i kept (job_start skipped (running named before more g) (job_at deck named.job))
  start_stands named true before more g e lt new round k = grind (arith, common_steps)
  start_stands named false before more g e lt new round k = grind (arith, common_steps, steps_stand, job_sound)

  given_stands : (more : ℕ) (before : List ℕ) (code g : ℕ) → IsRound (length deck) more before → InitiatorKept i [] kept
      → InitiatorStands deck i kept (given_at deck more before code g)
  given_stands more before code g round k =
      given_lands (InitiatorStands deck i kept) (tt, tt) deck more before code g (λ z. (tt, k))
      (λ named left e t m. start_stands named named.skipped before (suc left) g refl (named_is (length deck) code named e).0 t
      (subst (λ z. IsRound (length deck) z before) m round) k)

-- what is kept of the requests changes by latch events alone
pub obtained_stand : (deck : List JobData) (run : Running) (hand : Hand) (latch : ℕ) (mode : Mode) (id : ℕ) (steps : List Step)
    → IsStepping deck run hand (Use latch mode ∷ steps) → IsStepping deck run (hand_with hand latch mode id) steps
obtained_stand deck run hand latch mode id steps s = search (rules, hand_push, left_next, held_push)

pushed_kept : (i : ℕ) (kept : Kept) (run : Running) (hand : Hand) (latch : ℕ) (mode : Mode) (id : ℕ)
    → InitiatorKept i (standing_of (initiator i) run.job hand.holding) kept → {o : Kept} → o.caller ≡ kept.caller
    → o.requests ≡ kept.requests ++ standing_one kept.caller run.job (record { latch = latch; mode = mode; id = id }) ∷ []
    → InitiatorKept i (standing_of (initiator i) run.job (hand_with hand latch mode id).holding) o
pushed_kept i kept run hand latch mode id k same more = grind (arith, common_steps)

pub freed_stand : (deck : List JobData) (run : Running) (hand : Hand) (latch : ℕ) (steps : List Step)
    → IsStepping deck run hand (Free latch ∷ steps) → IsStepping deck run (hand_without hand latch) steps
freed_stand deck run hand latch steps s = search (rules, hand_less, left_next, held_without)

freed_kept : (i : ℕ) (kept : Kept) (run : Running) (hand : Hand) (latch id : ℕ) → IsHand hand → hand.requests latch ≡ Some id
    → InitiatorKept i (standing_of (initiator i) run.job hand.holding) kept
    → {o : Kept} → o.caller ≡ kept.caller → o.requests ≡ less (is_named latch id) kept.requests
    → InitiatorKept i (standing_of (initiator i) run.job (hand_without hand latch).holding) o
freed_kept i kept run hand latch id h e k same fewer = record {
  caller = same ∙ k.caller;
  stand = fewer ∙ ap (λ ts. less (is_named latch id) ts) k.stand
      ∙ standing_without (initiator i) run.job latch id hand.requests hand.holding h.last e;
}

pub initiator_stands : (deck : List JobData) (i : ℕ) (kept : Kept) (x : InitiatorAt) (r : Reply) → ArePlannedJobs 0 deck
    → InitiatorStands deck i kept (At x)
    → InitiatorStands deck i (keeps kept (initiator_asks (length deck) i x) r) (initiator_goes deck x r)
initiator_stands deck i kept (Pausing more before g) (Reply.Element (ElementReply.Given code now)) sound s =
    given_stands deck i sound _ more before code now s.0 (record { caller = s.1.caller; stand = s.1.stand })
initiator_stands deck i kept (Resuming more before g) (Reply.Element (ElementReply.Given code now)) sound s =
    given_stands deck i sound _ more before code now s.0 (record { caller = s.1.caller; stand = s.1.stand })
initiator_stands deck i kept (InJob run (Obtaining hand latch mode steps)) (Reply.Latch (LatchReply.Granted id)) sound s =
    search (rules, steps_stand, obtained_stand, pushed_kept)
initiator_stands deck i kept (InJob run (Confirming hand latch mode id steps)) (Reply.Latch (LatchReply.Granted same)) sound s =
    search (rules, steps_stand, obtained_stand)
initiator_stands deck i kept (InJob run (Freeing hand latch id steps)) (Reply.Latch (LatchReply.Released granted)) sound s =
    search (rules, steps_stand, freed_stand, freed_kept)
initiator_stands deck i kept (InJob run (Obtaining hand latch mode steps)) (Reply.Latch (LatchReply.Queued id)) sound s =
    grind (arith, common_steps, pushed_kept)
initiator_stands deck i kept (InJob run (Writing hand volume amount number steps)) (Reply.Volume VolumeReply.Stored) sound s =
    search (rules, steps_stand, step_done)
initiator_stands deck i kept (InJob run (Reading hand volume (Compares number) steps)) (Reply.Volume (VolumeReply.Value again)) sound s =
    search (rules, steps_stand, step_done)
initiator_stands deck i kept (InJob run (Ending post code counts)) r sound s =
    let next = rounds_stand deck i sound (keeps kept (initiator_asks (length deck) i (InJob run (Ending post code counts))) r) run
    s.0.round (record { caller = s.1.caller; stand = s.1.stand }) in grind (arith, common_steps)
initiator_stands deck i kept x r sound s = grind (arith, common_steps, standing_purged)

-- ---- at each point the program says the point's event

pub initiator_says : (c : Setup) (deck : List JobData) (i : ℕ) (kept : Kept) (x : InitiatorAt)
    → asks (initiator_program c deck i kept x) ≡ Some (initiator_asks (length deck) i x)
initiator_says c deck i kept x = grind (arith, common_steps)

-- ---- what a reply must be for the points to be the program's: the machine gives no other

-- none of these wakes posts a block
abbrev pub PostNothing : List Wake → Type 0
PostNothing ws = AllByRecursion (λ w. w.ecb ≡ None) ws

pub nothing_posted : {A : Type 0} (c : Setup) (ws : List Wake) (kept : Kept) (last : Program A) → PostNothing ws
    → wakes_posted c ws kept last ≡ last
nothing_posted c [] kept last p = refl
nothing_posted c (w ∷ ws) kept last p = ap (λ e. wake_posted c e w.code kept (wakes_posted c ws kept last)) p.0
    ∙ nothing_posted c ws kept last p.1

-- an exit starts from a done block alone, with number j + 1
abbrev pub WokeAs : ℕ → Reply → Type 0
WokeAs j (Reply.Ecb (EcbReply.Woke (suc x))) = suc x ≡ j + 1
WokeAs j r = Unit {0}

abbrev pub IsPlainReply : InitiatorAt → Reply → List Wake → Type 0
IsPlainReply (Offering more before g) r ws = IsPlainPost r
IsPlainReply (InJob run (Ending OfJob code counts)) r ws = WokeAs run.job r
IsPlainReply (InJob run (Ending ForScheduler code counts)) r ws = IsPlainPost r
IsPlainReply (InJob run (Ending ForWriter code counts)) r ws = IsPlainPost r
IsPlainReply (InJob run (Freeing hand latch id steps)) r ws = PostNothing ws
IsPlainReply (InJob run (Purging hand code)) r ws = PostNothing ws
IsPlainReply x r ws = Unit {0}

-- ---- the program goes from point to point

module _ (c : Setup) (deck : List JobData) (initiators i : ℕ) (facts : Facts c (length deck) initiators)
    (sound : ArePlannedJobs 0 deck) where
  some_blocks : 1 ≤ length c.owners
  some_blocks = grind (arith, common_steps)

  -- what is kept behind an event and its reply
  abbrev kept_by : Kept → InitiatorAt → Reply → Kept
  kept_by kept x r = keeps kept (initiator_asks (length deck) i x) r

  rounds_enter : (more : ℕ) (before : List ℕ) (g : ℕ) (kept : Kept)
      → rounds_later c deck i more before g kept ≡ program_at (initiator_program c deck i kept) (rounds_from more before g)
  rounds_enter zero before g kept = refl
  rounds_enter (suc more) before g kept = search (rules, post_is_now, some_blocks)

  rounds_after_enter : (run : Running) (kept : Kept)
      → rounds_later c deck i run.more (run.before ++ run.job ∷ []) run.generation kept ≡ program_at (initiator_program c deck i kept)
      (rounds_after run)
  rounds_after_enter run kept = rounds_enter run.more (run.before ++ run.job ∷ []) run.generation kept

  -- an exit's posts are one deeper than its source's
  deeper : (run : Running) → run.job < length deck → length c.owners - 1 ≡ suc (length c.owners - 2)
  deeper run lt = let e = facts.size in omega arith

  close_enters : (g : ℕ) (kept : Kept) → kept.caller ≡ initiator i
      → accepted (deallocate c (token_of (initiator i) g)) (λ closed. finished []) kept ≡ initiator_program c deck i kept (Closing g)
  close_enters g kept k = grind (arith, common_steps)

  obtain_is_free : (kept : Kept) (run : Running) (hand : Hand) (latch : ℕ) (mode : Mode) (steps : List Step)
      → IsStepping deck run hand (Use latch mode ∷ steps) → InitiatorKept i (standing_of (initiator i) run.job hand.holding) kept
      → obtain_refusal c latch (run.job + 1) mode LatchForm.Waiting kept ≡ None
  obtain_is_free kept run hand latch mode steps s k =
      let le = s.sound.0 in
      let few = rises_few 0 latch hand.holding s.holds.rises (omega arith) s.sound.1 in
      let count : length kept.requests ≡ length hand.holding =
      ap (λ ts. length ts) k.stand ∙ length_standing (initiator i) run.job hand.holding in
      let a = lt-ltb latch c.latches (let e = facts.latches in omega arith) in
      let b = lt-ltb (length kept.requests) c.quota (let e = facts.quota in omega arith) in
      ap (λ b. option_or (refused_if (not b) refusal.BadLatch)
      (refused_if (not (nat_lt (length kept.requests) c.quota && true)) refusal.Quota)) a
      ∙ ap (λ b. refused_if (not (b && true)) refusal.Quota) b where
        length_standing : (k job : ℕ) (gs : List Grant) → length (standing_of k job gs) ≡ length gs
        length_standing k job [] = refl
        length_standing k job (g ∷ gs) = ap (λ m. suc m) (length_standing k job gs)

  -- a job's steps
  steps_enter : (run : Running) (hand : Hand) (steps : List Step) (kept : Kept) → IsStepping deck run hand steps
      → InitiatorKept i (standing_of (initiator i) run.job hand.holding) kept
      → stepping c deck i run kept (steps_later c run hand steps kept) ≡ program_at (initiator_program c deck i kept)
      (steps_at run hand steps)
  steps_enter run hand (Print text ∷ steps) kept s k =
      steps_enter run hand steps kept (step_done deck run hand (Print text) steps tt s.sound s) k
  steps_enter run hand (Use latch mode ∷ steps) kept s k =
      ap (λ r. stepping c deck i run kept
      (going_on kept (unless_refused r
      (Do Latches (Op.Latch (LatchOp.Obtain latch (run.job + 1) mode LatchForm.Waiting))
      (λ h. on_latch h.entry.reply (obtained latch LatchForm.Waiting))))
      (unrefused (granted_as (obtained_later c run hand latch steps))))) (obtain_is_free kept run hand latch mode steps s k)
  steps_enter run hand steps kept s k = grind (arith, common_steps)

  start_enters : (named : Named) (skipped : Bool) (before : List ℕ) (more g : ℕ) (kept : Kept) → named.skipped ≡ skipped
      → named.job < length deck → list_any (λ j. j == named.job) before ≡ false
      → IsRound (length deck) more before → InitiatorKept i [] kept
      → stepping c deck i (running named before more g) kept (job_done c (named.job + 1) (job_at deck named.job) skipped kept)
      ≡ program_at (initiator_program c deck i kept) (job_start skipped (running named before more g) (job_at deck named.job))
  start_enters named true before more g kept e lt new round k = refl
  start_enters named false before more g kept e lt new round k =
      steps_enter (running named before more g) empty_hand (job_at deck named.job).steps kept (record {
        round = record { round = round; job = lt; new = new };
        holds = record { rises = tt; last = tt };
        left = record { past = []; whole = refl; going = tt; runs = e };
        sound = job_sound named.job 0 deck sound lt;
      }) k

  named_enters : (code more : ℕ) (before : List ℕ) (g : ℕ) (slot : Option Named) (kept : Kept) → job_named (length deck) code ≡ slot
      → IsRound (length deck) more before → InitiatorKept i [] kept
      → named_by slot before more (λ named. followed (run_job c deck named)
      (λ counts. rounds c deck i more (before ++ named.job ∷ []) (token_of (initiator i) g))) kept
      ≡ program_at (initiator_program c deck i kept) (named_at deck slot before more g)
  named_enters code (suc more) before g (Some named) kept e round k = go (list_any (λ j. j == named.job) before) refl where
    go : (b : Bool) → list_any (λ j. j == named.job) before ≡ b → (if b then wrong else followed (run_job c deck named)
        (λ counts. rounds c deck i (suc more) (before ++ named.job ∷ []) (token_of (initiator i) g))) kept
        ≡ program_at (initiator_program c deck i kept)
        (if b then Astray else job_start named.skipped (running named before (suc more) g) (job_at deck named.job))
    go true t = refl
    go false t = start_enters named named.skipped before (suc more) g kept refl (named_is (length deck) code named e).0 t round k
  named_enters code more before g slot kept e round k = grind (arith, common_steps)

  given_enters : (more : ℕ) (before : List ℕ) (code g : ℕ) (kept : Kept) → IsRound (length deck) more before → InitiatorKept i [] kept
      → given_later c deck i more before (gift_of (initiator i) code g) kept ≡ program_at (initiator_program c deck i kept)
      (given_at deck more before code g)
  given_enters more before code g kept round k =
      elim (code == 0) as (λ b. (if b then accepted (deallocate c (token_of (initiator i) g)) (λ closed. finished [])
      else named_by (job_named (length deck) code) before more
      (λ named. followed (run_job c deck named)
      (λ counts. rounds c deck i more (before ++ named.job ∷ []) (token_of (initiator i) g)))) kept
      ≡ program_at (initiator_program c deck i kept)
      (if b then At (Closing g) else named_at deck (job_named (length deck) code) before more g)) [
        | true ↦ close_enters g kept k.caller
        | false ↦ named_enters code more before g (job_named (length deck) code) kept refl round k
      ]

  -- the whole program starts with the opening
  pub opening_enters : accepted (allocate c) (rounds c deck i (length deck + 1) [])
      (nothing_kept (initiator i)) ≡ initiator_program c deck i (nothing_kept (initiator i)) Opening
  opening_enters = grind (arith, common_steps)

  pub initiator_hears : (kept : Kept) (x : InitiatorAt) (h : Heard) → InitiatorStands deck i kept (At x)
      → IsPlainReply x h.entry.reply h.wakes
      → heard (initiator_program c deck i kept x) h ≡ program_at
      (initiator_program c deck i (kept_by kept x h.entry.reply))
      (initiator_goes deck x h.entry.reply)
  initiator_hears kept x h s f = goes x h.entry.reply s f where
    told : Reply → Heard
    told r = record { entry = record h.entry { reply = r }; wakes = h.wakes }

    goes : (x : InitiatorAt) (r : Reply) → InitiatorStands deck i kept (At x) → IsPlainReply x r h.wakes
        → heard (initiator_program c deck i kept x) (told r) ≡ program_at
        (initiator_program c deck i (kept_by kept x r)) (initiator_goes deck x r)
    goes Opening (Reply.Element (ElementReply.Opened g)) s f = rounds_enter (length deck + 1) [] g _
    goes (Offering more before g) r s f = grind (arith, common_steps)
    goes (Pausing more before g) (Reply.Element (ElementReply.Given code now)) s f =
        given_enters more before code now _ s.0 (record { caller = s.1.caller; stand = s.1.stand })
    goes (Resuming more before g) (Reply.Element (ElementReply.Given code now)) s f =
        given_enters more before code now _ s.0 (record { caller = s.1.caller; stand = s.1.stand })
    goes (InJob run (Obtaining hand latch mode steps)) (Reply.Latch (LatchReply.Granted id)) s f =
        steps_enter run (hand_with hand latch mode id) steps _ (obtained_stand deck run hand latch mode id steps s.0)
        (pushed_kept i kept run hand latch mode id s.1 refl refl)
    goes (InJob run (Confirming hand latch mode id steps)) (Reply.Latch (LatchReply.Granted same)) s f =
        steps_enter run (hand_with hand latch mode id) steps _ (obtained_stand deck run hand latch mode id steps s.0)
        (record { caller = s.1.caller; stand = s.1.stand })
    goes (InJob run (Freeing hand latch id steps)) (Reply.Latch (LatchReply.Released granted)) s f =
        ap (λ p. stepping c deck i run now (going_on now p (unrefused (λ granted. steps_later c run hand steps))))
        (nothing_posted c h.wakes kept (Done (Ok granted)) f) ∙ steps_enter run (hand_without hand latch) steps now
        (freed_stand deck run hand latch steps s.0.0) (freed_kept i kept run hand latch id s.0.0.holds s.0.1 s.1 refl refl) where
          now : Kept
          now = kept_by kept (InJob run (Freeing hand latch id steps)) (Reply.Latch (LatchReply.Released granted))
    goes (InJob run (Reading hand volume (ToAdd amount) steps)) (Reply.Volume (VolumeReply.Value number)) s f = grind (arith, common_steps)
    goes (InJob run (Writing hand volume amount number steps)) (Reply.Volume VolumeReply.Stored) s f =
        search (rules, steps_enter, step_done)
    goes (InJob run (Reading hand volume ToCompare steps)) (Reply.Volume (VolumeReply.Value number)) s f = refl
    goes (InJob run (Reading hand volume (Compares number) steps)) (Reply.Volume (VolumeReply.Value again)) s f =
        search (rules, steps_enter, step_done)
    goes (InJob run (Purging hand code)) (Reply.Latch (LatchReply.Purged removed granted)) s f =
        ap (λ p. ending c deck i run now (and_then p (λ counts. wake_posted c (Some (done (length deck) run.job)) code kept (Done counts))))
        (nothing_posted c h.wakes kept (Done counts) f)
        ∙ ap (λ p. ending c deck i run now (and_then p (λ p. Done counts)))
        (post_is_now c (done (length deck) run.job) code kept some_blocks) where
          now : Kept
          now = kept_by kept (InJob run (Purging hand code)) (Reply.Latch (LatchReply.Purged removed granted))

          counts : Purged
          counts = record { removed = removed; granted = granted }
    goes (InJob run (Ending OfJob code counts)) (Reply.Ecb (EcbReply.Woke (suc x))) s f =
        ap (λ m. after (length c.owners - 1) (posted_next c (EcbReply.Woke m))) f
        ∙ ap (λ es. after (length c.owners - 1) es) (facts.targets run.job s.0.round.job)
        ∙ ap (λ d. after d (end_for_scheduler (length deck) run.job ∷ end_for_writer (length deck) run.job ∷ []))
        (deeper run s.0.round.job) where
          after : ℕ → List ℕ → Program (List ℕ)
          after depth es = ending c deck i run (kept_by kept (InJob run (Ending OfJob code counts)) (Reply.Ecb (EcbReply.Woke (suc x))))
              (and_then (each_posted (post_within depth c code) es Woke) (λ p. Done counts))
    goes (InJob run (Ending post code counts)) r s f = grind (arith, common_steps, rounds_after_enter)
    goes (Closing g) (Reply.Element ElementReply.Closed) s f = refl
    goes x r s f = refl
