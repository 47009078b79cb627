-- The ledger: each code that was released has been given, or stands in an element; each job before the scheduler's next was released
-- once; and no initiator was named a job that was not given to it. So each job is in one place. And what an initiator's event does to the
-- jobs that it was named, and to the code in its element.
use Rattle.mv_plan.proofs.Words.{◌≡◌, ℕ, ◌+◌, ◌<◌, ◌≤◌, Bool, List, [], ◌∷◌, ◌++◌, length, Option, Some, None, inl, inr, refl, ap, ◌∙◌}
use Rattle.mv_plan.proofs.Words.{arith, cases_eq, cases_lt, AllByRecursion, filter_map, Entry, System, released_code, gift_code, naming}
use Rattle.mv_plan.proofs.Words.{released_codes, given_codes, JobData, code_of, suc, eq-eqb, ElementState, element_step, Object, Op, Reply}
use Rattle.mv_plan.proofs.Words.{moved, reply_to, with_at, advanced, job_at, initiator, Named, ElementOp, rules, common_steps}
use Rattle.mv_plan.proofs.deck.{naming_own}
use Rattle.mv_plan.proofs.lists.{sum_to, sum_member, sum_two, count_of, count-push, count_none, one_of, with_at-same}
use Rattle.mv_plan.proofs.standing.{element_of, Starts, Works, Offers, Parks, offered, taken, handed, RowAt, Row}
use Rattle.mv_plan.proofs.points.{Point, At, Running, InitiatorAt, InJob, code_held, run_of, jobs_of, next_job, IsInitiatorAt, named_is}
use Rattle.mv_plan.proofs.points.{on_posted_keeps, SchedulerAt, Opening, Offering, Pausing, Resuming, Closing, initiator_asks}
use Rattle.mv_plan.proofs.points.{initiator_goes, rounds_from, given_at, running, on_opened, on_paused, on_resumed, on_closed, start_run}
use Rattle.mv_plan.proofs.points.{GoesOn, run_goes, run_asks, run_sound, IsNotLost, Elsewhere, no_gift, given_lands, rounds_land}
use Rattle.mv_plan.proofs.walks.{Points, SameTalk, same_talk}

-- the codes in the initiators' elements
abbrev pub element_code : System → ℕ → Option ℕ
element_code s i = code_held (element_of s i)

-- the codes that name job j and were released, where the scheduler's next job is this one: none, or one
abbrev pub Released : ℕ → ℕ → List ℕ → Type 0
Released next j codes = (next ≤ j → codes ≡ []) × (j < next → (skipped : Bool) × (codes ≡ code_of j skipped ∷ []))

pub record Ledger (deck : List JobData) (initiators : ℕ) (s : System) (t : Points) (past : List Entry) : Type 0 where
  -- of the codes that one may pick, as many were given or are in elements as were released
  pub codes : (pick : Option ℕ → Option ℕ) → pick None ≡ None
      → length (filter_map (λ e. pick (gift_code e.reply)) past) + sum_to initiators (λ i. one_of (pick (element_code s i)))
      ≡ length (filter_map (λ e. pick (released_code e.op)) past)
  pub released : (j : ℕ) → j < length deck → Released (next_job (length deck) t.scheduler) j (released_codes j past)
  pub named : (j : ℕ) → sum_to initiators (λ i. count_of j (jobs_of (t.initiators i))) ≤ length (given_codes j past)

-- ---- what it shows of a job

-- initiator i runs it
abbrev pub RunBy : Points → ℕ → ℕ → Type 0
RunBy t i j = (run : Running) × (run_of (t.initiators i) ≡ Some run) × (run.job ≡ j)

-- the job that is run was named
counted : (j m : ℕ) (ms : List ℕ) → m ≡ j → 1 ≤ count_of j (ms ++ m ∷ [])
counted j m ms e = let a = count-push j m ms in grind arith

run_counted : (j : ℕ) (p : Point InitiatorAt) (run : Running) → run_of p ≡ Some run → run.job ≡ j → 1 ≤ count_of j (jobs_of p)
run_counted j (At (InJob run' w)) run e is = counted j run'.job run'.before (ap (λ z. z.job) (let q : run' ≡ run = cc e in q) ∙ is)
run_counted j p run e is = absurd (cc e)

module _ (deck : List JobData) (initiators : ℕ) (s : System) (t : Points) (past : List Entry) (w : Ledger deck initiators s t past)
    (j : ℕ) (below : j < length deck) where
  abbrev next : ℕ
  next = next_job (length deck) t.scheduler

  -- how often it was named to an initiator, and how often its code is in an element
  abbrev jobs : ℕ → ℕ
  jobs i = count_of j (jobs_of (t.initiators i))

  abbrev held : ℕ → ℕ
  held i = one_of (naming j (element_code s i))

  -- neither more often than once
  once : sum_to initiators jobs + sum_to initiators held ≤ length (released_codes j past)
  once = let a = w.codes (naming j) refl in let b = w.named j in omega arith

  few : length (released_codes j past) ≤ 1
  few = grind (arith, common_steps, cases_lt, below)

  -- it was given once at most
  pub given_few : length (given_codes j past) ≤ 1
  given_few = let a = w.codes (naming j) refl in let b = few in omega arith

  run_member : (i : ℕ) → i < initiators → RunBy t i j → (1 ≤ jobs i) × (jobs i ≤ sum_to initiators jobs)
  run_member i lt run = (run_counted j (t.initiators i) run.0 run.1 run.2, sum_member initiators i jobs lt)

  held_member : (i : ℕ) (skipped : Bool) → i < initiators → element_code s i ≡ Some (code_of j skipped) → 1 ≤ sum_to initiators held
  held_member i skipped lt e =
      let a = sum_member initiators i held lt in
      let b : held i ≡ 1 = ap (λ z. one_of (naming j z)) e ∙ ap one_of (naming_own j skipped) in omega arith

  -- who runs it, does so alone, and behind its release; and no element holds its code
  pub run_alone : (i m : ℕ) → i < initiators → m < initiators → RunBy t i j → RunBy t m j → i ≡ m
  run_alone i m lt less x y = elim (cases_eq i m) [
    | inl e ↦ e
    | inr d ↦ let a = sum_two initiators i m jobs lt less d in let b = run_member i lt x in let g = run_member m less y in
        let o = once in let f = few in absurd (omega arith)
  ]

  pub run_released : (i : ℕ) → i < initiators → RunBy t i j → j < next
  run_released i lt x = elim (cases_lt j next) [
    | inl less ↦ less
    | inr ge ↦ let e = ap length ((w.released j below).0 ge) in let a = run_member i lt x in let o = once in absurd (omega arith)
  ]

  pub run_unheld : (i m : ℕ) (skipped : Bool) → i < initiators → m < initiators → RunBy t i j
      → element_code s m ≡ Some (code_of j skipped) → ⊥
  run_unheld i m skipped lt less x e =
      let a = run_member i lt x in let b = held_member m skipped less e in let o = once in let f = few in absurd (omega arith)

  -- no initiator was named a job whose code is in an element
  pub held_new : (i m : ℕ) (skipped : Bool) → i < initiators → m < initiators → element_code s m ≡ Some (code_of j skipped)
      → AllByRecursion (λ k. k ≡ j → ⊥) (jobs_of (t.initiators i))
  held_new i m skipped lt less e =
      let a = sum_member initiators i jobs lt in let b = held_member m skipped less e in let o = once in let f = few in
      count_none j (jobs_of (t.initiators i)) (omega arith)

-- ---- what an initiator's event does to the jobs that it was named, and to the code in its element

-- the jobs of q are those of p and the one that a code names, or fewer
abbrev pub NamedMore : Point InitiatorAt → Point InitiatorAt → ℕ → Type 0
NamedMore p q code = (j : ℕ) → count_of j (jobs_of q) ≤ count_of j (jobs_of p) + one_of (naming j (Some code))

-- From one point to another, with the code in the element before and after it: nothing is given, or the code that was held.
pub data Deed (p q : Point InitiatorAt) (h h' : Option ℕ) (r : Reply) : Type 0 where
  went_on : jobs_of q ≡ jobs_of p → h' ≡ h → gift_code r ≡ None → Deed p q h h' r
  given : (code : ℕ) → h ≡ Some code → h' ≡ None → gift_code r ≡ Some code → NamedMore p q code → Deed p q h h' r

jobs_run : (p : Point InitiatorAt) (run : Running) → run_of p ≡ Some run → jobs_of p ≡ run.before ++ run.job ∷ []
jobs_run (At (InJob run' w)) run e = ap (λ z. z.before ++ z.job ∷ []) (let q : run' ≡ run = cc e in q)
jobs_run p run e = absurd (cc e)

-- no element answers elsewhere
pub elsewhere_gave : (n : ℕ) (s : System) (k : ℕ) (o : Object) (op : Op) (r : Reply) → Elsewhere n o → Some r ≡ reply_to s k o op
    → gift_code r ≡ None
elsewhere_gave n s k o op r low e = grind (arith, common_steps, no_gift)

rounds_jobs : (m : ℕ) (before : List ℕ) (g : ℕ) → IsNotLost (rounds_from m before g) → jobs_of (rounds_from m before g) ≡ before
rounds_jobs m before g = rounds_land (λ p. IsNotLost p → jobs_of p ≡ before) (λ f. absurd f) m before g (λ left e f. refl)

named_one : (j : ℕ) (before : List ℕ) (named : Named) (code : ℕ) (js : List ℕ) → code ≡ code_of named.job named.skipped
    → js ≡ before ++ named.job ∷ [] → count_of j js ≤ count_of j before + one_of (naming j (Some code))
named_one j before named code js e is = grind (arith, common_steps, count-push, naming_own, eq-eqb)

-- the point after a gift, where it is not lost
given_jobs : (deck : List JobData) (more : ℕ) (before : List ℕ) (code g : ℕ) → IsNotLost (given_at deck more before code g)
    → (j : ℕ) → count_of j (jobs_of (given_at deck more before code g)) ≤ count_of j before + one_of (naming j (Some code))
given_jobs deck more before code g =
    given_lands (λ p. IsNotLost p → (j : ℕ) → count_of j (jobs_of p) ≤ count_of j before + one_of (naming j (Some code)))
    (λ f. absurd f) deck more before code g (λ z f j. omega arith)
    (λ named left e t m f j. elim (start_run named.skipped (running named before (suc left) g) (job_at deck named.job)) [
      | inl w ↦ named_one j before named code _ (named_is (length deck) code named e).1 (jobs_run _ _ w)
      | inr w ↦ absurd (w f)
    ])

module _ (deck : List JobData) (o h : Option ℕ) where
  opened_did : (y : ElementState) (r : Reply) → r ≡ Reply.Element (element_step ElementOp.Open y).1 → Row Starts o h y
      → IsNotLost (on_opened r (length deck))
      → Deed (At Opening) (on_opened r (length deck)) (code_held y) (code_held (element_step ElementOp.Open y).0) r
  opened_did y r e w = search (rules, rounds_jobs, went_on)

  paused_did : (more : ℕ) (before : List ℕ) (g : ℕ) (y : ElementState) (r : Reply)
      → r ≡ Reply.Element (element_step (ElementOp.Pause g) y).1 → Row (Offers g) o h y → IsNotLost (on_paused deck more before g r)
      → Deed (At (Pausing more before g)) (on_paused deck more before g r) (code_held y)
      (code_held (element_step (ElementOp.Pause g) y).0) r
  paused_did more before g y r e (handed code a b q) =
      rw (e, q, eq-eqb g g refl) (λ f. given code refl refl refl (given_jobs deck more before code (g + 1) f))
  paused_did more before g y r e (offered a b q) = rw (e, q, eq-eqb g g refl) (λ f. went_on refl refl refl)
  paused_did more before g y r e (taken a b q) = rw (e, q, eq-eqb g g refl) (λ f. went_on refl refl refl)

  resumed_did : (more : ℕ) (before : List ℕ) (g : ℕ) (y : ElementState) (r : Reply)
      → r ≡ Reply.Element (element_step (ElementOp.Resume g) y).1 → Row (Parks g) o h y → IsNotLost (on_resumed deck more before r)
      → Deed (At (Resuming more before g)) (on_resumed deck more before r) (code_held y)
      (code_held (element_step (ElementOp.Resume g) y).0) r
  resumed_did more before g y r e (handed code a b q) =
      rw (e, q, eq-eqb g g refl) (λ f. given code refl refl refl (given_jobs deck more before code (g + 1) f))
  resumed_did more before g y r e (offered a b q) = rw (e, q, eq-eqb g g refl) (λ f. absurd f)
  resumed_did more before g y r e (taken a b q) = rw (e, q, eq-eqb g g refl) (λ f. absurd f)

  closed_did : (g : ℕ) (y : ElementState) (r : Reply) → r ≡ Reply.Element (element_step (ElementOp.Close g) y).1
      → Row (Works g) o h y → IsNotLost (on_closed r)
      → Deed (At (Closing g)) (on_closed r) (code_held y) (code_held (element_step (ElementOp.Close g) y).0) r
  closed_did g y r e w = rw (e, w.2, eq-eqb g g refl) (λ f. went_on refl refl refl)

run_did : (p q : Point InitiatorAt) (h h' : Option ℕ) (r : Reply) (run : Running) → run_of p ≡ Some run → GoesOn run q
    → IsNotLost q → h' ≡ h → gift_code r ≡ None → Deed p q h h' r
run_did p q h h' r run e goes f k g = grind (arith, common_steps, jobs_run, rounds_jobs)

module _ (deck : List JobData) (s : System) (q : Point SchedulerAt) (i : ℕ) where
  abbrev n : ℕ
  n = length deck

  abbrev then_s : InitiatorAt → System
  then_s x = moved s (initiator i) (initiator_asks n i x).0 (initiator_asks n i x).1

  abbrev DidAt : InitiatorAt → Reply → Type 0
  DidAt x r = Deed (At x) (initiator_goes deck x r) (code_held (element_of s i)) (code_held (element_of (then_s x) i)) r

  on_element : (p q : Point InitiatorAt) (r : Reply) (y : ElementState) → Deed p q (code_held (element_of s i)) (code_held y) r
      → Deed p q (code_held (element_of s i))
      (code_held (with_at s.element (initiator i) (advanced (s.element (initiator i)) y) (initiator i)).state) r
  on_element p q r y d = rw (with_at-same s.element (initiator i) (advanced (s.element (initiator i)) y)) d

  runs_did : (x : InitiatorAt) (r : Reply) (run : Running) → run_of (At x) ≡ Some run → IsInitiatorAt deck (At x)
      → Some r ≡ reply_to s (initiator i) (initiator_asks n i x).0 (initiator_asks n i x).1 → IsNotLost (initiator_goes deck x r)
      → DidAt x r
  runs_did x r run e sound a f =
      let low : Elsewhere n (initiator_asks n i x).0 = run_asks n i x run e (run_sound deck x run e sound).job in
      let still : SameTalk n s (then_s x) = same_talk n s (initiator i) (initiator_asks n i x).0 (initiator_asks n i x).1 low in
      run_did (At x) (initiator_goes deck x r) _ _ r run e (run_goes deck x r run e) f
      (ap (λ z. code_held z.state) (still.elements (initiator i)))
      (elsewhere_gave n s (initiator i) (initiator_asks n i x).0 (initiator_asks n i x).1 r low a)

  pub initiator_did : (x : InitiatorAt) (r : Reply) → IsInitiatorAt deck (At x)
      → Some r ≡ reply_to s (initiator i) (initiator_asks n i x).0 (initiator_asks n i x).1 → RowAt n s q i (At x)
      → IsNotLost (initiator_goes deck x r) → DidAt x r
  initiator_did Opening r sound a w f = on_element _ _ r _ (opened_did deck _ _ (element_of s i) r (cc a) w f)
  initiator_did (Offering more before g) r sound a w f = search (rules, At, Pausing, on_posted_keeps, went_on)
  initiator_did (Pausing more before g) r sound a w f = on_element _ _ r _ (paused_did deck _ _ more before g (element_of s i) r (cc a) w f)
  initiator_did (Resuming more before g) r sound a w f =
      on_element _ _ r _ (resumed_did deck _ _ more before g (element_of s i) r (cc a) w f)
  initiator_did (InJob run job) r sound a w f = runs_did (InJob run job) r run refl sound a f
  initiator_did (Closing g) r sound a w f = on_element _ _ r _ (closed_did deck _ _ g (element_of s i) r (cc a) w f)
