-- Each initiator can make its event, or waits for a latch that is not granted, or rests in a pause until the scheduler releases it, or has
-- ended. Nothing but a pause and a latch holds up an initiator.
use Rattle.mv_plan.proofs.Words.{◌≡◌, ℕ, ◌+◌, ◌^◌, ◌<◌, ◌≤◌, Bool, true, false, if◌then◌else◌, List, [], ◌∷◌, length, Some, None, refl, sym}
use Rattle.mv_plan.proofs.Words.{ap, ◌∙◌, subst, arith, common_steps, eq-eqb, list_any, Entry, Setup, System, Reply, EcbOp, ElementOp}
use Rattle.mv_plan.proofs.Words.{ElementReply, LatchOp, LatchReply, element_step, reply_to, JobData, Step, Mode, job_at, initiator}
use Rattle.mv_plan.proofs.Words.{spool_setup, granted, list_of, is_own, latch_step}
use Rattle.mv_element.specs.Element.{released}
use Rattle.mv_machine.specs.System.{place_of}
use Rattle.mv_plan.proofs.points.Points.{OfJob, Point, At, Finished, TooSoon, Astray, Running, Hand, InitiatorAt, Opening, Offering}
use Rattle.mv_plan.proofs.points.Points.{Pausing, Resuming, Confirming, Ending, InJob, initiator_asks, initiator_goes, rounds_from}
use Rattle.mv_plan.proofs.points.Points.{steps_at, job_start, given_at, empty_hand, given_lands, rounds_land, ended_lands, counting_lands}
use Rattle.mv_plan.proofs.points.Points.{freeing_lands, code_held, IsNotLost}
use Rattle.mv_plan.proofs.deck.Planned.{IsPlanned}
use Rattle.mv_plan.proofs.points.Programs.{on_posted_keeps}
use Rattle.mv_plan.proofs.walks.Walks.{Points, entry_of}
use Rattle.mv_plan.proofs.standing.Initiators.{RowAt, offered, taken, handed, offer_of, hold_for, element_of}
use Rattle.mv_plan.proofs.places.Moments.{Moment}
use Rattle.mv_plan.proofs.serving.{Served}
use Rattle.mv_plan.proofs.ends.Blocks.{initiator_ecb}
use Rattle.mv_progress.specs.Progress.{IsNoEarlySettle}
use Rattle.mv_progress.proofs.Admitted.{initiator_admitted}
use Rattle.mv_progress.proofs.NextEvents.{IsInTime, IsEnabled}

-- ---- after an event that is no resume and no confirm, no wait has ended too soon

-- the initiator's event may come too soon
abbrev pub IsWaiting : InitiatorAt → Type 0
IsWaiting (Resuming more before g) = Unit {0}
IsWaiting (InJob run (Confirming hand latch mode id steps)) = Unit {0}
IsWaiting x = ⊥

pub steps_in_time : (run : Running) (hand : Hand) (steps : List Step) → IsInTime (steps_at run hand steps)
steps_in_time run hand [] = tt
steps_in_time run hand (first ∷ steps) = grind (arith, common_steps, freeing_lands, steps_in_time run hand steps)

start_in_time : (skipped : Bool) (run : Running) (job : JobData) → IsInTime (job_start skipped run job)
start_in_time true run job = tt
start_in_time false run job = steps_in_time run empty_hand job.steps

rounds_in_time : (m : ℕ) (before : List ℕ) (g : ℕ) → IsInTime (rounds_from m before g)
rounds_in_time m before g = rounds_land IsInTime tt m before g (λ left e. tt)

module _ (deck : List JobData) where
  pub given_in_time : (more : ℕ) (before : List ℕ) (code g : ℕ) → IsInTime (given_at deck more before code g)
  given_in_time more before code g = given_lands IsInTime tt deck more before code g (λ z. tt)
      (λ named left e t m. start_in_time named.skipped _ (job_at deck named.job))

  pub goes_in_time : (x : InitiatorAt) (r : Reply) → (IsWaiting x → ⊥) → IsInTime (initiator_goes deck x r)
  goes_in_time Opening (Reply.Element (ElementReply.Opened g)) d = rounds_in_time (length deck + 1) [] g
  goes_in_time (Offering more before g) r d = on_posted_keeps IsInTime (At (Pausing more before g)) r tt tt
  goes_in_time (Pausing more before g) (Reply.Element (ElementReply.Given code now)) d = given_in_time more before code now
  goes_in_time (Resuming more before g) r d = absurd (d tt)
  goes_in_time (InJob run (Confirming hand latch mode id steps)) r d = absurd (d tt)
  goes_in_time (InJob run (Ending OfJob code counts)) r d =
      ended_lands IsInTime tt run code counts r tt (rounds_in_time run.more _ run.generation)
  goes_in_time x r d = grind (arith, common_steps, steps_in_time, counting_lands, on_posted_keeps, rounds_in_time)

-- ---- an initiator's event is no early settle

pub no_early_settle : (deck : List JobData) (i : ℕ) (x : InitiatorAt) (p : ℕ) (r : Reply)
    → IsNoEarlySettle deck (entry_of (initiator i) p (initiator_asks (length deck) i x) r)
no_early_settle deck i x p r j lt o op q =
    let w = initiator_ecb (length deck) i x EcbOp.Settle op in let e : EcbOp.Settle ≡ EcbOp.Post w.0 = w.1 in cc e

-- ---- the status of an initiator

module _ (c : Setup) (deck : List JobData) (initiators : ℕ) (s : System) (t : Points) (i : ℕ) where
  abbrev n : ℕ
  n = length deck

  -- it can make its event
  abbrev pub CanMove : Type 0
  CanMove = (x : InitiatorAt) × (t.initiators i ≡ At x) × IsEnabled c deck s (initiator i) (initiator_asks n i x) (initiator_goes deck x)

  -- it waits for a latch that is not granted
  pub record IsQueued : Type 0 where
    pub run : Running
    pub hand : Hand
    pub latch : ℕ
    pub mode : Mode
    pub id : ℕ
    pub steps : List Step
    pub at : t.initiators i ≡ At (InJob run (Confirming hand latch mode id steps))
    pub waits : list_any (is_own (initiator i) id) (granted (list_of s.latches.state latch)) ≡ false

  -- it has paused; its element holds no code, and its block is complete or the scheduler is to release it
  pub record IsResting : Type 0 where
    pub more : ℕ
    pub before : List ℕ
    pub g : ℕ
    pub at : t.initiators i ≡ At (Resuming more before g)
    pub bare : code_held (element_of s i) ≡ None
    pub seen : offer_of n s i ≡ None → hold_for i t.scheduler ≡ None → ⊥

  -- one of these four
  pub data Status : Type 0 where
    enabled : CanMove → Status
    queued : IsQueued → Status
    rests : IsResting → Status
    ended : (a : List ℕ) → t.initiators i ≡ Finished a → Status

  -- ---- a pause

  parked_status : (more : ℕ) (before : List ℕ) (g : ℕ) → t.initiators i ≡ At (Resuming more before g)
      → ((code : ℕ) → element_of s i ≡ released g code → CanMove) → RowAt n s t.scheduler i (At (Resuming more before g)) → Status
  parked_status more before g at go (offered a b q) = rests (record {
    more = more;
    before = before;
    g = g;
    at = at;
    bare = ap (λ x. code_held x) q;
    seen = λ e f. let z : None ≡ Some g = sym e ∙ a in cc z;
  })
  parked_status more before g at go (taken a b q) = rests (record {
    more = more;
    before = before;
    g = g;
    at = at;
    bare = ap (λ x. code_held x) q;
    seen = λ e f. let z : None ≡ Some g = sym f ∙ b in cc z;
  })
  parked_status more before g at go (handed code a b q) = enabled (go code q)

-- what a resume of a released pause is answered
resumed_in_time : (deck : List JobData) (i more : ℕ) (before : List ℕ) (g code : ℕ) (s : System) (r : Reply)
    → element_of s i ≡ released g code
    → Some r ≡ reply_to s (initiator i) (initiator_asks (length deck) i (Resuming more before g)).0
    (initiator_asks (length deck) i (Resuming more before g)).1
    → IsInTime (initiator_goes deck (Resuming more before g) r)
resumed_in_time deck i more before g code s r q e =
    subst (λ z. IsInTime (initiator_goes deck (Resuming more before g) z)) (sym is) (given_in_time deck more before code (g + 1)) where
      said : r ≡ Reply.Element (element_step (ElementOp.Resume g) (element_of s i)).1
      said = cc e

      is : r ≡ Reply.Element (ElementReply.Given code (g + 1))
      is = said ∙ ap (λ x. Reply.Element (element_step (ElementOp.Resume g) x).1) q ∙ rw (eq-eqb g g refl) refl

-- what a confirm of a granted request is answered
confirmed_in_time : (deck : List JobData) (i : ℕ) (run : Running) (hand : Hand) (latch : ℕ) (mode : Mode) (id : ℕ) (steps : List Step)
    (s : System) (r : Reply) → list_any (is_own (initiator i) id) (granted (list_of s.latches.state latch)) ≡ true
    → Some r ≡ reply_to s (initiator i) (initiator_asks (length deck) i (InJob run (Confirming hand latch mode id steps))).0
    (initiator_asks (length deck) i (InJob run (Confirming hand latch mode id steps))).1
    → IsInTime (initiator_goes deck (InJob run (Confirming hand latch mode id steps)) r)
confirmed_in_time deck i run hand latch mode id steps s r g e =
    subst (λ z. IsInTime (initiator_goes deck (InJob run (Confirming hand latch mode id steps)) z)) (sym is)
    (steps_in_time run _ steps) where
      said : r ≡ Reply.Latch (latch_step (initiator i) s.latches.place (LatchOp.Confirm latch id) s.latches.state).1
      said = cc e

      is : r ≡ Reply.Latch (LatchReply.Granted id)
      is = said ∙ ap (λ b. Reply.Latch (if b then LatchReply.Granted id
          else if list_any (is_own (initiator i) id) (list_of s.latches.state latch) then LatchReply.Waiting else LatchReply.Gone)) g

module _ (deck : List JobData) (initiators : ℕ) (some : 1 ≤ initiators) (sound : IsPlanned deck initiators) (s : System)
    (t : Points) (past : List Entry) (low : (m : ℕ) → (s.element m).state.generation < 2 ^ 30)
    (lists : length s.latches.state ≡ 8) (now : Moment (spool_setup deck initiators) deck initiators s t past)
    (served : Served deck initiators s t past) where
  abbrev c' : Setup
  c' = spool_setup deck initiators

  pub status : (i : ℕ) → i < initiators → Status c' deck initiators s t i
  status i lt = by (t.initiators i) refl where
    can : (x : InitiatorAt) → t.initiators i ≡ At x
        → ((r : Reply) → Some r ≡ reply_to s (initiator i) (initiator_asks (length deck) i x).0 (initiator_asks (length deck) i x).1
        → IsInTime (initiator_goes deck x r)) → CanMove c' deck initiators s t i
    can x at f = (
      x,
      at,
      record {
        admits = initiator_admitted deck initiators some sound s t past low lists now served i x lt at;
        in_time = f;
        settles = λ r e. no_early_settle deck i x (place_of s (initiator_asks (length deck) i x).0) r;
      },
    )

    confirming : (run : Running) (hand : Hand) (latch : ℕ) (mode : Mode) (id : ℕ) (steps : List Step)
        → t.initiators i ≡ At (InJob run (Confirming hand latch mode id steps)) → (b : Bool)
        → list_any (is_own (initiator i) id) (granted (list_of s.latches.state latch)) ≡ b → Status c' deck initiators s t i
    confirming run hand latch mode id steps at true g =
        enabled (can (InJob run (Confirming hand latch mode id steps)) at
        (λ r e. confirmed_in_time deck i run hand latch mode id steps s r g e))
    confirming run hand latch mode id steps at false g = queued (record {
      run = run;
      hand = hand;
      latch = latch;
      mode = mode;
      id = id;
      steps = steps;
      at = at;
      waits = g;
    })

    free : (x : InitiatorAt) → t.initiators i ≡ At x → (IsWaiting x → ⊥) → Status c' deck initiators s t i
    free x at d = enabled (can x at (λ r e. goes_in_time deck x r d))

    by : (p : Point InitiatorAt) → t.initiators i ≡ p → Status c' deck initiators s t i
    by (At (Resuming more before g)) at = parked_status c' deck initiators s t i more before g at
        (λ code q. can (Resuming more before g) at (λ r e. resumed_in_time deck i more before g code s r q e))
        (subst (λ p. RowAt (length deck) s t.scheduler i p) at (now.rows.rows i lt))
    by (At (InJob run (Confirming hand latch mode id steps))) at = confirming run hand latch mode id steps at _ refl
    by (At x) at = free x at (λ w. w)
    by (Finished a) at = ended a at
    by TooSoon at = absurd (subst (λ p. IsNotLost p) at (now.none_lost.at_initiator i lt))
    by Astray at = absurd (subst (λ p. IsNotLost p) at (now.none_lost.at_initiator i lt))
