-- The initiators that the scheduler has dismissed, and no others, hold code 0 in their elements or are at their ends.
use Rattle.mv_plan.proofs.Words.{◌≡◌, ℕ, suc, ◌+◌, ◌<◌, if◌then◌else◌, List, length, Option, Some, None, ◌⊎◌, inl, inr, refl}
use Rattle.mv_plan.proofs.Words.{sym, ap, ◌∙◌, subst, arith, common_steps, cases_eq, eq-eqb, Entry, IsNext, next, Setup, System, moved}
use Rattle.mv_plan.proofs.Words.{Object, Op, Reply, with_at, JobData, job_at, initiator, reader, scheduler, writer, gift_code}
use Rattle.mv_plan.proofs.deck.Ends.{never_zero}
use Rattle.mv_plan.proofs.points.Points.{Point, At, Finished, reader_asks, Stage, Dispatching, Dismissing, SchedulerAt, Releases}
use Rattle.mv_plan.proofs.points.Points.{scheduler_asks, scheduler_goes, writer_asks, Running, InitiatorAt, Offering, Pausing}
use Rattle.mv_plan.proofs.points.Points.{Closing, InJob, initiator_asks, initiator_goes, rounds_from, running, given_at}
use Rattle.mv_plan.proofs.points.Points.{given_lands, run_of, IsNotLost, errand, errand_in, code_held}
use Rattle.mv_plan.proofs.points.Programs.{on_posted_keeps, IsReaderAt, IsWriterAt}
use Rattle.mv_plan.proofs.points.RunningJob.{run_goes, GoesOn, start_run, RunsOn}
use Rattle.mv_plan.proofs.points.Scheduler.{same_errand, released_errand, after_release, IsSchedulerAt, IsHanded, IsStage}
use Rattle.mv_plan.proofs.points.Initiator.{IsInitiatorAt}
use Rattle.mv_plan.proofs.walks.Walks.{Points, Move, entry_of, Each, of_move}
use Rattle.mv_plan.proofs.walks.Stands.{TasksStand}
use Rattle.mv_plan.proofs.walks.Along.{NoneLost, SameTalk, same_talk}
use Rattle.mv_plan.proofs.standing.Initiators.{Rows, RowAt, reader_low, writer_low, element_of, row_at, hold_for, offer_of, stance, apart}
use Rattle.mv_plan.proofs.standing.Initiators.{Apart}
use Rattle.mv_plan.proofs.places.Deeds.{element_code, Deed, went_on, given, initiator_did}
use Rattle.mv_plan.proofs.places.Moments.{scheduler_quiet, row_fresh, has_stance, Fresh}
use Rattle.mv_plan.proofs.lists.{all_but, with_at-same, with_at-other}
use Rattle.mv_plan.proofs.results.HandedOut.{dismissed_by}

-- ---- dismissed initiators

-- the initiator is at its end
abbrev pub IsLeaving : Point InitiatorAt → Type 0
IsLeaving (At (Closing g)) = Unit {0}
IsLeaving (Finished answer) = Unit {0}
IsLeaving p = ⊥

-- the initiator has code 0 in its element, or is at its end
abbrev pub IsGone : Option ℕ → Point InitiatorAt → Type 0
IsGone h p = (h ≡ Some 0) ⊎ IsLeaving p

-- the initiators below d are gone, and no others
abbrev pub AreGone : ℕ → (ℕ → Option ℕ) → (ℕ → Point InitiatorAt) → ℕ → Type 0
AreGone initiators codes points d = (i : ℕ) → i < initiators → (i < d → IsGone (codes i) (points i)) × (IsGone (codes i) (points i) → i < d)

abbrev pub AreDismissed : ℕ → System → Points → Type 0
AreDismissed initiators s t = AreGone initiators (element_code s) t.initiators (dismissed_by initiators (errand t.scheduler))

leaving_is_not_lost : (p : Point InitiatorAt) → IsLeaving p → IsNotLost p
leaving_is_not_lost p w = grind (arith, common_steps)

run_stays : (p : Point InitiatorAt) (run : Running) → run_of p ≡ Some run → IsLeaving p → ⊥
run_stays p run e w = grind (arith, common_steps)

rounds_stay : (m : ℕ) (before : List ℕ) (g : ℕ) → IsLeaving (rounds_from m before g) → ⊥
rounds_stay m before g w = grind (arith, common_steps)

runs_stay : (run : Running) (p : Point InitiatorAt) → RunsOn run p → IsLeaving p → ⊥
runs_stay run p (inl e) w = run_stays p run e w
runs_stay run p (inr f) w = f (leaving_is_not_lost p w)

goes_stay : (run : Running) (p : Point InitiatorAt) → GoesOn run p → IsLeaving p → ⊥
goes_stay run p x w = grind (arith, common_steps, run_stays, rounds_stay, leaving_is_not_lost)

module _ (deck : List JobData) where
  -- after a pause or a resume that was given this code
  given_stays : (more : ℕ) (before : List ℕ) (code g : ℕ) → IsLeaving (given_at deck more before code g) → code ≡ 0
  given_stays more before code g = given_lands (λ p. IsLeaving p → code ≡ 0) (λ w. absurd w) deck more before code g (λ z w. z)
      (λ named left e t m w. absurd (runs_stay (running named before (suc left) g) _
      (start_run named.skipped (running named before (suc left) g) (job_at deck named.job)) w))

  given_leaves : (more : ℕ) (before : List ℕ) (code g : ℕ) → code ≡ 0 → IsLeaving (given_at deck more before code g)
  given_leaves more before code g e = rw (eq-eqb code 0 e) tt

  -- an initiator that is at its end after an event was so before, or was given code 0
  leaving_by : (x : InitiatorAt) (r : Reply) → IsLeaving (initiator_goes deck x r) → (gift_code r ≡ Some 0) ⊎ IsLeaving (At x)
  leaving_by (Offering more before g) r w =
      absurd (on_posted_keeps (λ p. IsLeaving p → ⊥) (At (Pausing more before g)) r (λ z. z) (λ z. z) w)
  leaving_by (InJob run j) r w = absurd (goes_stay run _ (run_goes deck (InJob run j) r run refl) w)
  leaving_by x r w = grind (arith, common_steps, rounds_stay, given_stays)

  leaving_still : (x : InitiatorAt) (r : Reply) → IsLeaving (At x) → IsNotLost (initiator_goes deck x r)
      → IsLeaving (initiator_goes deck x r)
  leaving_still x r w f = grind (arith, common_steps)

  -- an initiator that is given code 0 is at its end
  leaving_given : (x : InitiatorAt) (r : Reply) → gift_code r ≡ Some 0 → IsNotLost (initiator_goes deck x r)
      → IsLeaving (initiator_goes deck x r)
  leaving_given x r e f = grind (arith, common_steps, given_leaves)

  own_gone : (x : InitiatorAt) (r : Reply) (h h' : Option ℕ) → Deed (At x) (initiator_goes deck x r) h h' r
      → IsNotLost (initiator_goes deck x r)
      → (IsGone h (At x) → IsGone h' (initiator_goes deck x r)) × (IsGone h' (initiator_goes deck x r) → IsGone h (At x))
  own_gone x r h h' (went_on a d g) f = grind (arith, common_steps, leaving_still, leaving_by)
  own_gone x r h h' (given code had now g more) f = grind (arith, common_steps, leaving_given, leaving_still, leaving_by)

-- an event that changes none of the codes, points and counts
gone_same : (initiators : ℕ) (codes codes' : ℕ → Option ℕ) (points points' : ℕ → Point InitiatorAt) (d d' : ℕ)
    → ((i : ℕ) → i < initiators → codes' i ≡ codes i) → points' ≡ points → d' ≡ d → AreGone initiators codes points d
    → AreGone initiators codes' points' d'
gone_same initiators codes codes' points points' d d' c p e w i lt = rw (c i lt, p, e) (w i lt)

-- a release with code 0 dismisses the next initiator; one with another code comes before the first is dismissed
abbrev pub IsCase : ℕ → ℕ → ℕ → ℕ → Type 0
IsCase i code d d' = ((code ≡ 0) × (d ≡ i) × (d' ≡ i + 1)) ⊎ ((code ≡ 0 → ⊥) × (d ≡ 0) × (d' ≡ 0))

-- after a release: the element of initiator i has this code
gone_released : (initiators i code : ℕ) (codes codes' : ℕ → Option ℕ) (points : ℕ → Point InitiatorAt) (d d' : ℕ) → codes' i ≡ Some code
    → ((m : ℕ) → (i ≡ m → ⊥) → codes' m ≡ codes m) → IsCase i code d d'
    → codes i ≡ None → AreGone initiators codes points d → AreGone initiators codes' points d'
gone_released initiators i code codes codes' points d d' own others z none w m lt = grind (arith, common_steps, cases_eq i m)

-- how many were dismissed before a release and after it
released_count : (initiators i code : ℕ) (after : Stage) (deck : List JobData) → IsStage deck initiators after → IsHanded i code after
    → IsCase i code (dismissed_by initiators (errand_in after)) (dismissed_by initiators (after_release initiators after))
released_count initiators i code (Dispatching j jobs) deck st h =
    inr ((λ z. never_zero h.0 h.1 (sym h.3 ∙ z)), refl, none initiators jobs) where
      none : (initiators : ℕ) (jobs : List JobData) → dismissed_by initiators (after_release initiators (Dispatching j jobs)) ≡ 0
      none x jobs = grind (arith, common_steps)
released_count initiators i code (Dismissing m more) deck st h = grind (arith, common_steps)

module _ (c : Setup) (deck : List JobData) (initiators : ℕ) where
  abbrev size : ℕ
  size = length deck

  abbrev Dismissing_on : System → Points → Entry → Points → Type 0
  Dismissing_on s t e u = TasksStand deck initiators t → Rows deck initiators s t → NoneLost initiators t → NoneLost initiators u
      → AreDismissed initiators s t → AreDismissed initiators (next s e) u

  abbrev count_at : Point SchedulerAt → ℕ
  count_at q = dismissed_by initiators (errand q)

  quiet_codes : (s : System) (k : ℕ) (ask : Object × Op) → SameTalk size s (moved s k ask.0 ask.1) → (i : ℕ)
      → element_code (moved s k ask.0 ask.1) i ≡ element_code s i
  quiet_codes s k ask same i = ap (λ z. code_held z.state) (same.elements (initiator i))

  scheduled : (s : System) (t : Points) (x : SchedulerAt) (p : ℕ) (r : Reply) → t.scheduler ≡ At x
      → IsNext c s (entry_of scheduler p (scheduler_asks size x) r)
      → Dismissing_on s t (entry_of scheduler p (scheduler_asks size x) r) (record t { scheduler = scheduler_goes size initiators x r })
  scheduled s t (Releases i g code after) p r at nx st rows found unlost w =
      gone_released initiators i code (element_code s) _ t.initiators (count_at t.scheduler) _
      (ap (λ z. code_held z.state) (with_at-same s.element (initiator i) _) ∙ fresh.after)
      (λ m d. ap (λ z. code_held z.state) (with_at-other s.element (initiator i) (initiator m) _ (λ z. d (omega arith))))
      (subst (λ q. IsCase i code (count_at q) (count_at (scheduler_goes size initiators (Releases i g code after) r))) (sym at)
      (subst (λ z. IsCase i code (dismissed_by initiators (errand_in after)) (dismissed_by initiators z))
      (sym (released_errand size initiators after r unlost.at_scheduler)) (released_count initiators i code after deck sound.1 sound.2)))
      fresh.before w where
        sound : IsSchedulerAt deck initiators (At (Releases i g code after))
        sound = subst (IsSchedulerAt deck initiators) at st.scheduler

        fresh : Fresh g code (element_of s i)
        fresh = row_fresh (stance (t.initiators i)) g code (offer_of size s i) (element_of s i)
            (has_stance (t.initiators i) (found.at_initiator i sound.0)) (row_at _ _ _ _ _ _ _ _ refl refl
            (sym (ap (hold_for i) at ∙ ap (λ b. if b then Some g else None) (eq-eqb i i refl))) refl (rows.rows i sound.0))
  scheduled s t x p r at nx st rows found unlost w =
      let quiet = scheduler_quiet size s x r tt nx.reply in
      gone_same initiators (element_code s) _ t.initiators t.initiators (count_at t.scheduler) _ (λ i lt. quiet.element_codes_same i) refl
      (ap (dismissed_by initiators) (same_errand size initiators x r tt unlost.at_scheduler ∙ sym (ap errand at))) w

  initiated : (s : System) (t : Points) (i : ℕ) (x : InitiatorAt) (p : ℕ) (r : Reply) → i < initiators → t.initiators i ≡ At x
      → IsNext c s (entry_of (initiator i) p (initiator_asks size i x) r)
      → Dismissing_on s t (entry_of (initiator i) p (initiator_asks size i x) r)
      (record t { initiators = with_at t.initiators i (initiator_goes deck x r) })
  initiated s t i x p r lt at nx st rows found unlost w m less =
      all_but (λ m q. (m < count_at t.scheduler → IsGone (element_code later m) q) × (IsGone (element_code later m) q
      → m < count_at t.scheduler))
      t.initiators i (initiator_goes deck x r) m own others where
        later : System
        later = moved s (initiator i) (initiator_asks size i x).0 (initiator_asks size i x).1

        stands : IsInitiatorAt deck (At x)
        stands = subst (IsInitiatorAt deck) at (st.each i lt)

        far : Apart deck s t.scheduler i later
        far = apart deck s t.scheduler i x stands

        not_lost : IsNotLost (initiator_goes deck x r)
        not_lost = subst (λ z. IsNotLost z) (with_at-same t.initiators i (initiator_goes deck x r)) (unlost.at_initiator i lt)

        both : (IsGone (element_code s i) (At x) → IsGone (element_code later i) (initiator_goes deck x r))
            × (IsGone (element_code later i) (initiator_goes deck x r) → IsGone (element_code s i) (At x))
        both = own_gone deck x r (element_code s i) (element_code later i)
            (initiator_did deck s t.scheduler i x r stands nx.reply (subst (λ z. RowAt size s t.scheduler i z) at (rows.rows i lt))
            not_lost)
            not_lost

        own : (i < count_at t.scheduler → IsGone (element_code later i) (initiator_goes deck x r))
            × (IsGone (element_code later i) (initiator_goes deck x r) → i < count_at t.scheduler)
        own = (
          λ low. both.0 (subst (λ q. IsGone (element_code s i) q) at ((w i lt).0 low)),
          λ g. (w i lt).1 (subst (λ q. IsGone (element_code s i) q) (sym at) (both.1 g)),
        )

        others : (i ≡ m → ⊥) → (m < count_at t.scheduler → IsGone (element_code later m) (t.initiators m))
            × (IsGone (element_code later m) (t.initiators m) → m < count_at t.scheduler)
        others d =
            let same : element_code later m ≡ element_code s m =
            ap (λ z. code_held z.state) (far.elements (initiator m) (λ z. d (omega arith))) in (
              λ low. subst (λ h. IsGone h (t.initiators m)) (sym same) ((w m less).0 low),
              λ g. (w m less).1 (subst (λ h. IsGone h (t.initiators m)) same g),
            )

  each_dismissing : Each c deck initiators Dismissing_on
  each_dismissing = record {
    of_reader = λ s t x p r at nx st rows found unlost w. gone_same initiators (element_code s) _ t.initiators t.initiators
        (count_at t.scheduler) _ (λ i lt. quiet_codes s reader (reader_asks x)
        (same_talk size s reader (reader_asks x).0 (reader_asks x).1 (reader_low size x (subst (λ q. IsReaderAt size q) at st.reader))) i)
        refl refl w;
    of_scheduler = λ s t x p r at nx st rows found unlost w. scheduled s t x p r at nx st rows found unlost w;
    of_initiator = λ s t i x p r lt at nx st rows found unlost w. initiated s t i x p r lt at nx st rows found unlost w;
    of_writer = λ s t x p r at nx st rows found unlost w. gone_same initiators (element_code s) _ t.initiators t.initiators
        (count_at t.scheduler) _ (λ i lt. quiet_codes s (writer initiators) (writer_asks x)
        (same_talk size s (writer initiators) (writer_asks x).0 (writer_asks x).1
        (writer_low size x (subst (λ q. IsWriterAt size q) at st.writer))) i) refl refl w;
  }

  pub dismissed_next : (s : System) (t u : Points) (e : Entry) → IsNext c s e → Move deck initiators t e u → TasksStand deck initiators t
      → Rows deck initiators s t → NoneLost initiators t → NoneLost initiators u → AreDismissed initiators s t
      → AreDismissed initiators (next s e) u
  dismissed_next s t u e nx m st rows found unlost w = of_move c deck initiators Dismissing_on each_dismissing s t u e nx m st rows found
      unlost w
