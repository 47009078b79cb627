-- The machine admits the event at each task's point: its blocks and elements exist and are the task's own, codes and generations are small,
-- latches and volumes exist, an obtain is within the quota, and what is written has 32 bits.
use Rattle.mv_plan.proofs.Words.{◌≡◌, ℕ, zero, suc, ◌+◌, ◌*◌, ◌^◌, ◌<◌, ◌≤◌, ◌==◌, nat_lt, Bool, true, false, ◌&&◌, if◌then◌else◌, List, []}
use Rattle.mv_plan.proofs.Words.{◌∷◌, ◌++◌, length, map, filter, inl, inr, refl, sym, ap, ◌∙◌, subst, arith, AllByRecursion, cases_eq}
use Rattle.mv_plan.proofs.Words.{eq-eqb, ne_eqb, lt-ltb, range_with_len, Entry, Setup, System, Ecb, Element, Volume, Latches, Op, EcbOp}
use Rattle.mv_plan.proofs.Words.{ElementOp, VolumeOp, LatchOp, LatchForm, admitted, ecb_admitted, owner_of, element_owner, JobData, After}
use Rattle.mv_plan.proofs.Words.{Step, job_at, entered, idle, done, initiator, reader, scheduler, writer, code_of, not_run, own_end}
use Rattle.mv_plan.proofs.Words.{spool_setup, Request, list_of, of_caller, ends_of, ElementState}
use Rattle.mv_machine.specs.System.{element_admitted, volume_admitted, latches_of, posts_own_ecb}
use Rattle.mv_latch.specs.LatchSet.{count_in, latch_admitted}
use Rattle.mv_plan.proofs.deck.Planned.{IsPlanned}
use Rattle.mv_plan.proofs.deck.Ends.{own_end_below}
use Rattle.mv_plan.proofs.deck.Setup.{Facts, facts}
use Rattle.mv_plan.proofs.lists.{sum_to, sum_ext, sum_front, sum_zero, sum_member}
use Rattle.mv_plan.proofs.points.Points.{At, ReaderAt, Entering, reader_asks, Arming, Settling, Stage, Dispatching, Dismissing, Awaited}
use Rattle.mv_plan.proofs.points.Points.{ForEntry, ForEnds, ForIdle, ToDismiss, SchedulerAt, Waits, Extends, Clears, Releases}
use Rattle.mv_plan.proofs.points.Points.{awaited_blocks, scheduler_asks, WriterAt, Keeping, writer_asks, Grant, Running, Hand, InitiatorAt}
use Rattle.mv_plan.proofs.points.Points.{Opening, Offering, Pausing, Resuming, Obtaining, Confirming, Freeing, Reading, ToAdd, ToCompare}
use Rattle.mv_plan.proofs.points.Points.{Compares, Writing, Purging, Ending, Closing, InJob, EndPost, OfJob, ForScheduler, ForWriter}
use Rattle.mv_plan.proofs.points.Points.{end_block, initiator_asks}
use Rattle.mv_plan.proofs.points.Programs.{IsReaderAt, IsWriterAt}
use Rattle.mv_plan.proofs.points.Scheduler.{IsSchedulerAt, IsAwaited, IsHanded, IsStage, later_below, later_sound, later_count}
use Rattle.mv_plan.proofs.points.Initiator.{IsInitiatorAt, Rises, rises_few, held_of, job_sound}
use Rattle.mv_plan.proofs.walks.Walks.{Points}
use Rattle.mv_plan.proofs.standing.Finds.{In, in_middle, in_all}
use Rattle.mv_plan.proofs.standing.Initiators.{RowAt}
use Rattle.mv_plan.proofs.places.Moments.{Moment}
use Rattle.mv_plan.proofs.latches.Lists.{asked}
use Rattle.mv_plan.proofs.latches.Hands.{grip, OwnsBy, Listed, listed_plain}
use Rattle.mv_plan.proofs.volumes.Alone.{ValueAt}
use Rattle.mv_plan.proofs.volumes.Totals.{due, adds_few, codes_of}
use Rattle.mv_plan.proofs.serving.{Served, ledger_once, once_each}

and3 : (a b d : Bool) → a ≡ true → b ≡ true → d ≡ true → (a && b && d) ≡ true
and3 a b d p q r = rw (p, q, r) refl

and2 : (a b : Bool) → a ≡ true → b ≡ true → (a && b) ≡ true
and2 a b p q = rw (p, q) refl

-- ---- how many requests a caller has in all lists

count_by_latch : (t : Request → Bool) (lists : List (List Request))
    → count_in t lists ≡ sum_to (length lists) (λ l. length (filter t (list_of lists l)))
count_by_latch t [] = refl
count_by_latch t (qs ∷ lists) = ap (λ m. length (filter t qs) + m) (count_by_latch t lists)
    ∙ sym (sum_front (length lists) (λ l. length (filter t (list_of (qs ∷ lists) l))))

asked_low : (k job m : ℕ) (g : Grant) (gs : List Grant) → m ≤ g.latch
    → sum_to m (λ l. length (asked k job l (g ∷ gs))) ≡ sum_to m (λ l. length (asked k job l gs))
asked_low k job zero g gs le = refl
asked_low k job (suc m) g gs le =
    let ih = asked_low k job m g gs (omega arith) in
    let here : length (asked k job m (g ∷ gs)) ≡ length (asked k job m gs) = rw (ne_eqb g.latch m (λ e. absurd (omega arith))) refl in
    omega arith

asked_one : (k job m : ℕ) (g : Grant) (gs : List Grant)
    → sum_to m (λ l. length (asked k job l (g ∷ gs))) ≤ 1 + sum_to m (λ l. length (asked k job l gs))
asked_one k job zero g gs = omega arith
asked_one k job (suc m) g gs = elim (cases_eq g.latch m) [
  | inl e ↦
      let low = asked_low k job m g gs (omega arith) in
      let here : length (asked k job m (g ∷ gs)) ≡ suc (length (asked k job m gs)) = rw (eq-eqb g.latch m e) refl in omega arith
  | inr d ↦
      let ih = asked_one k job m g gs in
      let here : length (asked k job m (g ∷ gs)) ≡ length (asked k job m gs) = rw (ne_eqb g.latch m d) refl in omega arith
]

asked_few : (k job m : ℕ) (gs : List Grant) → sum_to m (λ l. length (asked k job l gs)) ≤ length gs
asked_few k job m [] = let e = sum_zero m (λ l. 0) (λ l lt. refl) in omega arith
asked_few k job m (g ∷ gs) = let a = asked_one k job m g gs in let b = asked_few k job m gs in omega arith

-- a caller that obtains a latch above all that it holds has fewer than eight requests
pub count_few : (k job latch : ℕ) (gs : List Grant) (lists : List (List Request)) → Listed lists k job gs → Rises 0 gs
    → AllByRecursion (λ h. h.latch < latch) (held_of gs) → latch ≤ 7 → count_in (of_caller k) lists < 8
count_few k job latch gs lists listed rises below le =
    let a = count_by_latch (of_caller k) lists in
    let b = sum_ext (length lists) (λ l. length (filter (of_caller k) (list_of lists l))) (λ l. length (asked k job l gs))
    (λ l lt. ap (λ z. length z) (listed l)) in
    let d = asked_few k job (length lists) gs in
    let e = rises_few 0 latch gs rises (omega arith) below in omega arith

-- ---- what the configuration gives

module _ (deck : List JobData) (initiators : ℕ) (some : 1 ≤ initiators) (sound : IsPlanned deck initiators) (s : System) where
  abbrev n : ℕ
  n = length deck

  abbrev c : Setup
  c = spool_setup deck initiators

  abbrev w : Facts c n initiators
  w = facts deck initiators some

  few : 8 * n ≤ 524287
  few = let light = sound.light in omega arith

  block_admitted : (k b : ℕ) (op : EcbOp) → k < initiators + 3 → b < 4 * n + initiators → ecb_admitted c k b op ≡ true
      → admitted c s k (Ecb b) (Op.Ecb op) ≡ true
  block_admitted k b op lt less e = and3 _ _ _ (lt-ltb k c.callers lt) (lt-ltb b (length c.owners) (let size = w.size in omega arith)) e

  element_is_admitted : (k m : ℕ) (op : ElementOp) → k < initiators + 3 → m < initiators + 3 → element_admitted c k m op ≡ true
      → admitted c s k (Element m) (Op.Element op) ≡ true
  element_is_admitted k m op lt less e = and3 _ _ _ (lt-ltb k c.callers lt) (lt-ltb m ((initiators + 3) * 1) (omega arith)) e

  volume_is_admitted : (k v : ℕ) (op : VolumeOp) → k < initiators + 3 → v ≤ 7 → volume_admitted op ≡ true
      → admitted c s k (Volume v) (Op.Volume op) ≡ true
  volume_is_admitted k v op lt less e = and3 _ _ _ (lt-ltb k c.callers lt) (lt-ltb v 8 (omega arith)) e

  latch_is_admitted : (k : ℕ) (op : LatchOp) → k < initiators + 3 → posts_own_ecb c k op ≡ true
      → latch_admitted k op (latches_of c s.latches.state) ≡ true → admitted c s k Latches (Op.Latch op) ≡ true
  latch_is_admitted k op lt own e = and3 _ _ _ (lt-ltb k c.callers lt) own e

  -- ---- the reader and the writer

  pub reader_admitted : (x : ReaderAt) → IsReaderAt n (At x) → admitted c s reader (reader_asks x).0 (reader_asks x).1 ≡ true
  reader_admitted (Entering j more) at = block_admitted reader (entered j) (EcbOp.Post 0) (omega arith) (omega arith) refl

  pub writer_admitted : (x : WriterAt) → IsWriterAt n (At x) → admitted c s (writer initiators) (writer_asks x).0 (writer_asks x).1 ≡ true
  writer_admitted (Keeping j more ends (Arming e todo)) at =
      let lt : j < n = (let a = at.0 in omega arith) in let is = at.1 in
      block_admitted (writer initiators) e EcbOp.Arm (omega arith) (omega arith)
      (eq-eqb (owner_of c e) (writer initiators) (ap (owner_of c) at.1 ∙ w.writer_owner j lt))
  writer_admitted (Keeping j more ends (Settling e todo found)) at =
      let lt : j < n = (let a = at.0 in omega arith) in let is = at.1 in
      block_admitted (writer initiators) e EcbOp.Settle (omega arith) (omega arith)
      (eq-eqb (owner_of c e) (writer initiators) (ap (owner_of c) at.1 ∙ w.writer_owner j lt))

  -- ---- the scheduler

  abbrev IsOwned : ℕ → Type 0
  IsOwned b = (b < 4 * n + initiators) × (owner_of c b ≡ 1)

  ends_owned : (j : ℕ) (parts : List After) → j < n → AllByRecursion (λ part. part.job < j) parts → AllByRecursion IsOwned (ends_of n parts)
  ends_owned j [] lt a = tt
  ends_owned j (part ∷ parts) lt a =
      let less : part.job < j = a.0 in ((omega arith, w.scheduler_owner part.job (omega arith)), ends_owned j parts lt a.1)

  idles_owned : (from count : ℕ) → from + count ≤ initiators → AllByRecursion IsOwned (map (idle n) (range_with_len from count))
  idles_owned from zero le = tt
  idles_owned from (suc count) le = ((omega arith, w.idle_owner from (omega arith)), idles_owned (from + 1) count (omega arith))

  awaited_owned : (a : Awaited) → IsAwaited deck initiators a → AllByRecursion IsOwned (awaited_blocks n initiators a)
  awaited_owned (ForEntry j job jobs) r = let lt = later_below deck j job jobs r in ((omega arith, w.entered_owner j lt), tt)
  awaited_owned (ForEnds j job jobs) r =
      ends_owned j job.after (later_below deck j job jobs r) (later_sound deck j job jobs sound.jobs r).earlier
  awaited_owned (ForIdle j job jobs skipped) r = idles_owned 0 initiators (omega arith)
  awaited_owned (ToDismiss i more) e = ((omega arith, w.idle_owner i (omega arith)), tt)

  wait_owned : (a : Awaited) (past : List ℕ) (e : ℕ) (todo : List ℕ) → IsAwaited deck initiators a
      → past ++ e ∷ todo ≡ awaited_blocks n initiators a → IsOwned e
  wait_owned a past e todo r is = in_all IsOwned (awaited_blocks n initiators a) e (awaited_owned a r)
      (subst (λ l. In l e) is (in_middle past e todo))

  code_small : (k : ℕ) (skipped : Bool) → k < n → code_of k skipped < 2 ^ 24
  code_small k true lt = let m = few in omega arith
  code_small k false lt = let m = few in omega arith

  handed_small : (i code : ℕ) (after : Stage) → IsStage deck initiators after → IsHanded i code after → code < 2 ^ 24
  handed_small i code (Dispatching j jobs) st h =
      let next : j ≡ h.0 + 1 = h.2 in let whole = later_count deck j jobs st in
      let small = code_small h.0 h.1 (omega arith) in let is : code ≡ code_of h.0 h.1 = h.3 in omega arith
  handed_small i code (Dismissing m more) st h = let e = h.1 in omega arith

  pub scheduler_admitted : (x : SchedulerAt) → IsSchedulerAt deck initiators (At x)
      → admitted c s scheduler (scheduler_asks n x).0 (scheduler_asks n x).1 ≡ true
  scheduler_admitted (Waits a (Arming e todo)) st =
      let own = wait_owned a st.1.0 e todo st.0 st.1.1 in
      block_admitted scheduler e EcbOp.Arm (omega arith) own.0 (eq-eqb (owner_of c e) 1 own.1)
  scheduler_admitted (Waits a (Settling e todo found)) st =
      let own = wait_owned a st.1.0 e todo st.0 st.1.1 in
      block_admitted scheduler e EcbOp.Settle (omega arith) own.0 (eq-eqb (owner_of c e) 1 own.1)
  scheduler_admitted (Extends j job jobs skipped) st =
      let lt = later_below deck j job jobs st in let m = few in
      block_admitted scheduler (done n j) (EcbOp.Extend (j + 1)) (omega arith) (omega arith)
      (and2 _ _ (eq-eqb (owner_of c (done n j)) 1 (w.done_owner j lt))
      (and2 _ _ (lt-ltb (j + 1) (2 ^ 30) (omega arith)) (w.exit j lt)))
  scheduler_admitted (Clears i g code after) st =
      let lt : i < initiators = st.0 in
      block_admitted scheduler (idle n i) EcbOp.Clear (omega arith) (omega arith) (eq-eqb (owner_of c (idle n i)) 1 (w.idle_owner i lt))
  scheduler_admitted (Releases i g code after) st =
      let lt : i < initiators = st.0 in
      element_is_admitted scheduler (initiator i) (ElementOp.Release g code) (omega arith) (omega arith)
      (lt-ltb code (2 ^ 24) (handed_small i code after st.1 st.2))

  -- ---- initiators

  own_element : (i : ℕ) (op : ElementOp) → i < initiators → element_admitted c (initiator i) (initiator i) op ≡ true
      → admitted c s (initiator i) (Element (initiator i)) (Op.Element op) ≡ true
  own_element i op lt e = element_is_admitted (initiator i) (initiator i) op (omega arith) (omega arith) e

  is_own_element : (i : ℕ) → (element_owner c (initiator i) == initiator i) ≡ true
  is_own_element i = eq-eqb (element_owner c (initiator i)) (initiator i) (w.element (initiator i))

  end_small : (b : Bool) (m code : ℕ) → m < not_run → code ≡ (if b then not_run else m) → code < 2 ^ 30
  end_small true m code lt e = omega arith
  end_small false m code lt e = omega arith

  end_is_there : (j : ℕ) (post : EndPost) → j < n → end_block n j post < 4 * n + initiators
  end_is_there j OfJob lt = omega arith
  end_is_there j ForScheduler lt = omega arith
  end_is_there j ForWriter lt = omega arith

  module _ (t : Points) (past : List Entry) (low : (m : ℕ) → (s.element m).state.generation < 2 ^ 30)
      (lists : length s.latches.state ≡ 8) (now : Moment c deck initiators s t past) (served : Served deck initiators s t past) where
    latch_there : (latch : ℕ) → latch ≤ 7 → nat_lt latch (length s.latches.state) ≡ true
    latch_there latch le = lt-ltb latch (length s.latches.state) (omega arith)

    -- what is written is what the volume has and one of the amounts that are due
    write_small : (i : ℕ) (run : Running) (hand : Hand) (volume amount number : ℕ) (steps : List Step) → i < initiators
        → t.initiators i ≡ At (InJob run (Writing hand volume amount number steps)) → number + amount < 2 ^ 32
    write_small i run hand volume amount number steps lt at =
        let a = served.balance now.none_lost volume in
        let b = sum_member initiators i (λ m. due volume (t.initiators m)) lt in
        let d = ap (due volume) at in
        let e = ap (λ b. if b then amount else 0) (eq-eqb volume volume refl) in
        let f = adds_few deck initiators volume (codes_of past) some sound
        (once_each deck past (ledger_once deck initiators s t past now.ledger)) in
        let g : (s.volume volume).state ≡ number = subst (λ p. ValueAt s.volume p) at (served.latched.values i lt) in
        omega arith

    offer_small : (i more : ℕ) (before : List ℕ) (g : ℕ) → i < initiators → t.initiators i ≡ At (Offering more before g) → g < 2 ^ 30
    offer_small i more before g lt at =
        let row = subst (λ p. RowAt n s t.scheduler i p) at (now.rows.rows i lt) in
        let is : (s.element (initiator i)).state.generation ≡ g = ap (λ (x : ElementState). x.generation) row.2 in
        let small = low (initiator i) in omega arith

    pub initiator_admitted : (i : ℕ) (x : InitiatorAt) → i < initiators → t.initiators i ≡ At x
        → admitted c s (initiator i) (initiator_asks n i x).0 (initiator_asks n i x).1 ≡ true
    initiator_admitted i x lt at = by x at (subst (IsInitiatorAt deck) at (now.stand.at_initiator i lt).0)
        (subst (λ p. OwnsBy s.latches.state (initiator i) (grip p)) at (served.latched.hands.owns i lt)) where
          is : initiator i < initiators + 3
          is = omega arith

          by : (x : InitiatorAt) → t.initiators i ≡ At x → IsInitiatorAt deck (At x) → OwnsBy s.latches.state (initiator i) (grip (At x))
              → admitted c s (initiator i) (initiator_asks n i x).0 (initiator_asks n i x).1 ≡ true
          by Opening at st own = own_element i ElementOp.Open lt (is_own_element i)
          by (Offering more before g) at st own =
              block_admitted (initiator i) (idle n i) (EcbOp.Post g) is (omega arith)
              (lt-ltb g (2 ^ 30) (offer_small i more before g lt at))
          by (Pausing more before g) at st own = own_element i (ElementOp.Pause g) lt (is_own_element i)
          by (Resuming more before g) at st own = own_element i (ElementOp.Resume g) lt (is_own_element i)
          by (InJob run (Obtaining hand latch mode steps)) at st own =
              latch_is_admitted (initiator i) (LatchOp.Obtain latch (run.job + 1) mode LatchForm.Waiting) is refl
              (and2 _ _ (latch_there latch st.sound.0) (and2 _ _ (lt-ltb (count_in (of_caller (initiator i)) s.latches.state) 8
              (count_few (initiator i) run.job latch hand.holding s.latches.state
              (listed_plain s.latches.state (initiator i) run.job hand.holding own) st.holds.rises st.sound.1 st.sound.0)) refl))
          by (InJob run (Confirming hand latch mode id steps)) at st own =
              latch_is_admitted (initiator i) (LatchOp.Confirm latch id) is refl (latch_there latch st.sound.0)
          by (InJob run (Freeing hand latch id steps)) at st own =
              latch_is_admitted (initiator i) (LatchOp.Release latch id false) is refl (latch_there latch st.0.sound.0)
          by (InJob run (Reading hand volume (ToAdd amount) steps)) at st own =
              volume_is_admitted (initiator i) volume VolumeOp.Read is st.sound.0 refl
          by (InJob run (Reading hand volume ToCompare steps)) at st own =
              volume_is_admitted (initiator i) volume VolumeOp.Read is st.sound.0 refl
          by (InJob run (Reading hand volume (Compares number) steps)) at st own =
              volume_is_admitted (initiator i) volume VolumeOp.Read is st.sound.0 refl
          by (InJob run (Writing hand volume amount number steps)) at st own =
              volume_is_admitted (initiator i) volume (VolumeOp.Write (number + amount)) is st.sound.0
              (lt-ltb (number + amount) (2 ^ 32) (write_small i run hand volume amount number steps lt at))
          by (InJob run (Purging hand code)) at st own = latch_is_admitted (initiator i) (LatchOp.Purge (run.job + 1)) is refl refl
          by (InJob run (Ending post code counts)) at st own =
              block_admitted (initiator i) (end_block n run.job post) (EcbOp.Post code) is (end_is_there run.job post st.round.job)
              (lt-ltb code (2 ^ 30) (end_small run.skipped (own_end (job_at deck run.job).steps) code
              (own_end_below (job_at deck run.job).steps [] (job_sound run.job 0 deck sound.jobs st.round.job)) st.end))
          by (Closing g) at st own = own_element i (ElementOp.Close g) lt (is_own_element i)
