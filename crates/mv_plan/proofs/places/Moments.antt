-- The ledger is kept by each move at which no task is lost. A moment: all that is known there (kept, sound points, rows, ledger), and
-- the induction that may use it. Results on runs are proved by walk_moments.
use Rattle.mv_plan.proofs.Words.{◌≡◌, ℕ, ◌+◌, ◌<◌, ◌≤◌, Bool, if◌then◌else◌, List, [], ◌∷◌, ◌++◌, length, Option, Some, None, inl, inr, sym}
use Rattle.mv_plan.proofs.Words.{refl, ap, ◌∙◌, subst, arith, cases_eq, eq-eqb, ElementState, element_step, Entry, Element, Reply, IsNext}
use Rattle.mv_plan.proofs.Words.{next, Setup, System, moved, reply_to, with_at, released_code, gift_code, JobData, Kept, reader, scheduler}
use Rattle.mv_plan.proofs.Words.{initiator, writer, code_of, not_to_run, naming, released_codes, ElementOp, Op, common_steps, after_from}
use Rattle.mv_plan.proofs.Words.{opening}
use Rattle.mv_plan.proofs.deck.{naming_own, naming_other, naming_zero, released_none, released_some, ArePlannedJobs, Facts}
use Rattle.mv_plan.proofs.points.{IsReaderAt, IsWriterAt, IsInitiatorAt, NoRelease, same_next, dispatched_next, dismissed_next, Point, At}
use Rattle.mv_plan.proofs.points.{Stage, Dispatching, Dismissing, reader_asks, reader_goes, SchedulerAt, Releases, scheduler_asks, jobs_of}
use Rattle.mv_plan.proofs.points.{scheduler_goes, writer_asks, writer_goes, InitiatorAt, initiator_asks, initiator_goes, IsSchedulerAt}
use Rattle.mv_plan.proofs.points.{later_count, no_release, reader_plain, writer_plain, Elsewhere, code_held, next_job, IsNotLost, stage_at}
use Rattle.mv_plan.proofs.places.Deeds.{Deed, went_on, given, elsewhere_gave, initiator_did, element_code, Released, Ledger}
use Rattle.mv_plan.proofs.standing.{Stance, Loses, stance, RowAt, hold_for, offer_of, element_of, row_at, Apart, apart, reader_low, Row}
use Rattle.mv_plan.proofs.standing.{writer_low, rows_start, rows_next, Rows}
use Rattle.mv_plan.proofs.walks.{Stand, SameTalk, same_talk, Points, Move, entry_of, Each, of_move, fits_opening, fits_next, stand_start}
use Rattle.mv_plan.proofs.walks.{stand_next, kept_next, none_lost_before, start_points, WalkTo, walk_keeps, NoneLost, Fits}
use Rattle.mv_plan.proofs.lists.{sum_to, sum_ext, sum_change, sum_with_at, count_of, one_of, length-pushed, with_at-same, with_at-other}
use Rattle.mv_plan.proofs.lists.{all_but, sum_zero}

-- a task that is not lost has a stance
pub has_stance : (p : Point InitiatorAt) → IsNotLost p → stance p ≡ Loses → ⊥
has_stance p f e = grind (arith, common_steps)

-- an element that the scheduler is to release holds no code, and the released one after it
pub record Fresh (g code : ℕ) (x : ElementState) : Type 0 where
  pub before : code_held x ≡ None
  pub after : code_held (element_step (ElementOp.Release g code) x).0 ≡ Some code

pub row_fresh : (st : Stance) (g code : ℕ) (o : Option ℕ) (x : ElementState) → (st ≡ Loses → ⊥) → Row st o (Some g) x → Fresh g code x
row_fresh y g code o x d w = grind (arith, common_steps)

-- what the scheduler says but for releases
pub record IsQuiet (s z : System) (ask_code : Option ℕ) (r : Reply) : Type 0 where
  pub element_codes_same : (m : ℕ) → element_code z m ≡ element_code s m
  pub no_code : ask_code ≡ None
  pub no_gift : gift_code r ≡ None

pub scheduler_quiet : (n : ℕ) (s : System) (x : SchedulerAt) (r : Reply) → NoRelease x
    → Some r ≡ reply_to s scheduler (scheduler_asks n x).0 (scheduler_asks n x).1
    → IsQuiet s (moved s scheduler (scheduler_asks n x).0 (scheduler_asks n x).1) (released_code (scheduler_asks n x).1) r
scheduler_quiet n s x r d q = grind (arith, common_steps)

-- ---- the codes of one job by an entry

released_same : (next now j : ℕ) (past : List Entry) (e : Entry) → now ≡ next → naming j (released_code e.op) ≡ None
    → Released next j (released_codes j past) → Released now j (released_codes j (past ++ e ∷ []))
released_same next now j past e same none w = rw (same, released_none j past e none) w

released_more : (n k j : ℕ) (skipped : Bool) (past : List Entry) (e : Entry) → n ≤ not_to_run → j < n → k < n
    → released_code e.op ≡ Some (code_of k skipped) → Released k j (released_codes j past)
    → Released (k + 1) j (released_codes j (past ++ e ∷ []))
released_more n k j skipped past e few lt less is w = elim (cases_eq k j) [
  | inl one ↦ (
    λ le. absurd (omega arith),
    λ under. (
      skipped,
      released_some j past e (code_of j skipped)
          (ap (naming j) (is ∙ ap (λ y. Some (code_of y skipped)) one) ∙ naming_own j skipped)
          ∙ ap (λ l. l ++ code_of j skipped ∷ []) (w.0 (omega arith)),
    ),
  )
  | inr other ↦
      let same = released_none j past e (ap (naming j) is ∙ naming_other n j k skipped few lt less other) in
      (λ le. same ∙ w.0 (omega arith), λ under. let old = w.1 (omega arith) in (old.0, same ∙ old.1))
]

module _ (c : Setup) (deck : List JobData) (initiators : ℕ) (few : length deck ≤ not_to_run) (kept : ℕ → Kept) (past : List Entry) where
  abbrev n : ℕ
  n = length deck

  -- each move with its ledger
  abbrev pub Ledgered : System → Points → Entry → Points → Type 0
  Ledgered s t e u = Stand deck initiators kept t → Rows deck initiators s t → NoneLost initiators t → NoneLost initiators u
      → Ledger deck initiators s t past → Ledger deck initiators (next s e) u (past ++ e ∷ [])

  module _ (s : System) (t : Points) (ledger : Ledger deck initiators s t past) (e : Entry) (u : Points) where
    abbrev Then : Type 0
    Then = Ledger deck initiators (next s e) u (past ++ e ∷ [])

    abbrev in_elements : (Option ℕ → Option ℕ) → System → ℕ
    in_elements pick s = sum_to initiators (λ i. one_of (pick (element_code s i)))

    abbrev jobs : ℕ → Points → ℕ
    jobs j t = sum_to initiators (λ i. count_of j (jobs_of (t.initiators i)))

    -- the ledger after an entry: codes are given from elements or released to them, and jobs are named by their codes
    make : ((pick : Option ℕ → Option ℕ) → pick None ≡ None → one_of (pick (gift_code e.reply)) + in_elements pick (next s e)
        ≡ in_elements pick s + one_of (pick (released_code e.op)))
        → ((j : ℕ) → j < n → Released (next_job n u.scheduler) j (released_codes j (past ++ e ∷ [])))
        → ((j : ℕ) → jobs j u ≤ jobs j t + one_of (naming j (gift_code e.reply))) → Then
    make codes released named = grind (arith, common_steps, length-pushed)

    released_still : u.scheduler ≡ t.scheduler → released_code e.op ≡ None → (j : ℕ) → j < n
        → Released (next_job n u.scheduler) j (released_codes j (past ++ e ∷ []))
    released_still same none j lt = released_same _ _ j past e (ap (next_job n) same) (ap (naming j) none) (ledger.released j lt)

    -- neither a release nor a gift
    quiet : next_job n u.scheduler ≡ next_job n t.scheduler → ((m : ℕ) → m < initiators → element_code (next s e) m ≡ element_code s m)
        → ((m : ℕ) → m < initiators → jobs_of (u.initiators m) ≡ jobs_of (t.initiators m)) → released_code e.op ≡ None
        → gift_code e.reply ≡ None → Then
    quiet a b d rc gc = make
        (λ pick none. let f = sum_ext initiators _ _ (λ m lt. ap (λ z. one_of (pick z)) (b m lt)) in
        let g = ap one_of (ap pick rc ∙ none) in let h = ap one_of (ap pick gc ∙ none) in omega arith)
        (λ j lt. released_same _ _ j past e a (ap (naming j) rc) (ledger.released j lt))
        (λ j. let f = sum_ext initiators _ _ (λ m lt. ap (count_of j) (d m lt)) in omega arith)

    -- one element's code is another, as it is released to it or given from it
    module _ (i : ℕ) (lt : i < initiators) (others : (m : ℕ) → (i ≡ m → ⊥) → element_code (next s e) m ≡ element_code s m) where
      codes_change : (pick : Option ℕ → Option ℕ) → in_elements pick (next s e) + one_of (pick (element_code s i))
          ≡ in_elements pick s + one_of (pick (element_code (next s e) i))
      codes_change pick = sum_change initiators i _ _ lt (λ m d. ap (λ z. one_of (pick z)) (others m d))

      releases : (code : ℕ) → element_code s i ≡ None → element_code (next s e) i ≡ Some code → u.initiators ≡ t.initiators
          → released_code e.op ≡ Some code → gift_code e.reply ≡ None
          → ((j : ℕ) → j < n → Released (next_job n u.scheduler) j (released_codes j (past ++ e ∷ []))) → Then
      releases code free now same rc gc released = make
          (λ pick none. let f = codes_change pick in let g = ap one_of (ap pick gc ∙ none) in
          let h = ap one_of (ap pick free ∙ none) in let k = ap (λ z. one_of (pick z)) (now ∙ sym rc) in omega arith)
          released
          (λ j. let f = ap (λ z. sum_to initiators (λ i. count_of j (jobs_of (z i)))) same in omega arith)

      gives : (code : ℕ) → u.scheduler ≡ t.scheduler → element_code s i ≡ Some code → element_code (next s e) i ≡ None
          → released_code e.op ≡ None → gift_code e.reply ≡ Some code
          → ((j : ℕ) → jobs j u ≤ jobs j t + one_of (naming j (Some code))) → Then
      gives code same had free rc gc named = make
          (λ pick none. let f = codes_change pick in let g = ap one_of (ap pick rc ∙ none) in
          let h = ap one_of (ap pick free ∙ none) in let k = ap (λ z. one_of (pick z)) (had ∙ sym gc) in omega arith)
          (released_still same rc)
          (λ j. let f = named j in let g = ap (λ z. one_of (naming j z)) gc in omega arith)

  -- the reader and the writer
  apart_task : (s : System) (t u : Points) (e : Entry) → u.scheduler ≡ t.scheduler → u.initiators ≡ t.initiators
      → Elsewhere n e.object → released_code e.op ≡ None → Some e.reply ≡ reply_to s e.caller e.object e.op
      → (ledger : Ledger deck initiators s t past) → Then s t ledger e u
  apart_task s t u e a b low rc q ledger =
      let still : SameTalk n s (next s e) = same_talk n s e.caller e.object e.op low in
      quiet s t ledger e u (ap (next_job n) a) (λ m lt. ap (λ z. code_held z.state) (still.elements (initiator m)))
      (λ m lt. ap (λ z. jobs_of (z m)) b) rc (elsewhere_gave n s e.caller e.object e.op e.reply low q)

  module _ (s : System) (t : Points) (ledger : Ledger deck initiators s t past) where
    module _ (i g code p : ℕ) (r : Reply) (lt : i < initiators) (fresh : Fresh g code (element_of s i)) where
      abbrev release : Entry
      release = entry_of scheduler p (Element (initiator i), Op.Element (ElementOp.Release g code)) r

      abbrev behind : Stage → Point SchedulerAt
      behind after = scheduler_goes n initiators (Releases i g code after) r

      no_gift : Some r ≡ reply_to s scheduler (Element (initiator i)) (Op.Element (ElementOp.Release g code)) → gift_code r ≡ None
      no_gift q = grind (arith, common_steps)

      -- it hands out a job, or tells that there is none
      released_then : (after : Stage) → t.scheduler ≡ At (Releases i g code after)
          → IsSchedulerAt deck initiators (At (Releases i g code after)) → IsNotLost (behind after) → (j : ℕ) → j < n
          → Released (next_job n (behind after)) j (released_codes j (past ++ release ∷ []))
      released_then (Dispatching j jobs) at sound f m less =
          let k = sound.2.0 in
          let at_k : next_job n t.scheduler ≡ k = ap (next_job n) at ∙ (let e = sound.2.2 in omega arith) in
          let whole : j + length jobs ≡ n = later_count deck j jobs sound.1 in
          subst (λ z. Released z m (released_codes m (past ++ release ∷ [])))
          (sym (dispatched_next n initiators j jobs r whole f ∙ sound.2.2))
          (released_more n k m sound.2.1 past release few less (let e = sound.2.2 in omega arith) (ap Some sound.2.3)
          (subst (λ z. Released z m (released_codes m past)) at_k (ledger.released m less)))
      released_then (Dismissing m more) at sound f j less =
          released_same _ _ j past release (dismissed_next n initiators m more r f ∙ sym (ap (next_job n) at))
          (ap (λ z. naming j (Some z)) sound.2.1 ∙ naming_zero j) (ledger.released j less)

      releasing : (after : Stage) → t.scheduler ≡ At (Releases i g code after)
          → IsSchedulerAt deck initiators (At (Releases i g code after))
          → Some r ≡ reply_to s scheduler (Element (initiator i)) (Op.Element (ElementOp.Release g code))
          → IsNotLost (behind after) → Then s t ledger release (record t { scheduler = behind after })
      releasing after at sound q f = releases s t ledger release (record t { scheduler = behind after }) i lt
          (λ m d. ap (λ z. code_held z.state) (with_at-other s.element (initiator i) (initiator m) _ (λ z. d (omega arith))))
          code fresh.before (ap (λ z. code_held z.state) (with_at-same s.element (initiator i) _) ∙ fresh.after) refl refl (no_gift q)
          (released_then after at sound f)

    scheduling : (x : SchedulerAt) (p : ℕ) (r : Reply) → t.scheduler ≡ At x → IsNext c s (entry_of scheduler p (scheduler_asks n x) r)
        → IsSchedulerAt deck initiators (At x) → Rows deck initiators s t → NoneLost initiators t
        → IsNotLost (scheduler_goes n initiators x r)
        → Then s t ledger (entry_of scheduler p (scheduler_asks n x) r) (record t { scheduler = scheduler_goes n initiators x r })
    scheduling (Releases i g code after) p r at nx sound w found f =
        releasing i g code p r sound.0 (row_fresh (stance (t.initiators i)) g code (offer_of n s i) (element_of s i)
        (has_stance (t.initiators i) (found.at_initiator i sound.0)) (row_at _ _ _ _ _ _ _ _ refl refl
        (sym (ap (hold_for i) at ∙ ap (λ b. if b then Some g else None) (eq-eqb i i refl))) refl (w.rows i sound.0)))
        after at sound nx.reply f
    scheduling x p r at nx sound w found f =
        let h = scheduler_quiet n s x r tt nx.reply in
        quiet s t ledger (entry_of scheduler p (scheduler_asks n x) r) (record t { scheduler = scheduler_goes n initiators x r })
        (same_next n initiators x r tt f ∙ sym (ap (next_job n) at)) (λ m lt. h.element_codes_same m) (λ m lt. refl)
        h.no_code h.no_gift

    module _ (i : ℕ) (x : InitiatorAt) (p : ℕ) (r : Reply) (lt : i < initiators) where
      abbrev own : Entry
      own = entry_of (initiator i) p (initiator_asks n i x) r

      abbrev q : Point InitiatorAt
      q = initiator_goes deck x r

      abbrev gone : Points
      gone = record t { initiators = with_at t.initiators i q }

      acting : t.initiators i ≡ At x → Apart deck s t.scheduler i (next s own)
          → Deed (At x) q (element_code s i) (element_code (next s own) i) r → Then s t ledger own gone
      acting at far (went_on a d g) =
          quiet s t ledger own gone refl
          (λ m less. elim (cases_eq i m) [
            | inl one ↦ subst (λ k. element_code (next s own) k ≡ element_code s k) one d
            | inr other ↦ elsewhere m other
          ])
          (λ m less. all_but (λ m p. jobs_of p ≡ jobs_of (t.initiators m)) t.initiators i q m (a ∙ sym (ap jobs_of at)) (λ other. refl))
          (no_release n i x) g where
            elsewhere : (m : ℕ) → (i ≡ m → ⊥) → element_code (next s own) m ≡ element_code s m
            elsewhere m d = ap (λ z. code_held z.state) (far.elements (initiator m) (λ z. d (omega arith)))
      acting at far (given code had now g more) =
          gives s t ledger own gone i lt (λ m d. ap (λ z. code_held z.state) (far.elements (initiator m) (λ z. d (omega arith))))
          code refl had now (no_release n i x) g
          (λ j. let a = sum_with_at initiators i (λ p. count_of j (jobs_of p)) t.initiators q lt in
          let b = more j in let d = ap (λ p. count_of j (jobs_of p)) at in omega arith)

  each_ledgered : Each c deck initiators Ledgered
  each_ledgered = record {
    of_reader = λ s t x p r at nx st w f g ledger. apart_task s t (record t { reader = reader_goes x r })
        (entry_of reader p (reader_asks x) r) refl refl
        (reader_low n x (subst (λ z. IsReaderAt n z) at st.at_reader)) (reader_plain x) nx.reply ledger;
    of_scheduler = λ s t x p r at nx st w f g ledger. scheduling s t ledger x p r at nx
        (subst (λ z. IsSchedulerAt deck initiators z) at st.at_scheduler.0) w f g.at_scheduler;
    of_initiator = λ s t i x p r lt at nx st w f g ledger.
        let sound : IsInitiatorAt deck (At x) = subst (λ z. IsInitiatorAt deck z) at (st.at_initiator i lt).0 in
        acting s t ledger i x p r lt at (apart deck s t.scheduler i x sound)
        (initiator_did deck s t.scheduler i x r sound nx.reply (subst (λ z. RowAt n s t.scheduler i z) at (w.rows i lt))
        (subst (λ z. IsNotLost z) (with_at-same t.initiators i (initiator_goes deck x r)) (g.at_initiator i lt)));
    of_writer = λ s t x p r at nx st w f g ledger. apart_task s t (record t { writer = writer_goes n x r })
        (entry_of (writer initiators) p (writer_asks x) r) refl refl
        (writer_low n x (subst (λ z. IsWriterAt n z) at st.at_writer)) (writer_plain x) nx.reply ledger;
  }

  pub ledger_next : (s : System) (t u : Points) (e : Entry) → Stand deck initiators kept t → Rows deck initiators s t
      → NoneLost initiators t → NoneLost initiators u → IsNext c s e → Move deck initiators t e u
      → Ledger deck initiators s t past → Ledger deck initiators (next s e) u (past ++ e ∷ [])
  ledger_next s t u e st w f g nx m ledger = of_move c deck initiators Ledgered each_ledgered s t u e nx m st w f g ledger

-- ---- moments

-- a moment: the machine fits; points are sound, with what callers keep; no task is lost; initiators, their blocks and elements
-- fit together; and the ledger is kept
pub record Moment (c : Setup) (deck : List JobData) (initiators : ℕ) (s : System) (t : Points) (past : List Entry) : Type 0 where
  pub kept : ℕ → Kept
  pub fits : Fits c s
  pub stand : Stand deck initiators kept t
  pub none_lost : NoneLost initiators t
  pub rows : Rows deck initiators s t
  pub ledger : Ledger deck initiators s t past

next_at_start : (deck : List JobData) (initiators : ℕ) (j : ℕ)
    → Released (next_job (length deck) (stage_at (length deck) initiators (Dispatching 0 deck))) j []
next_at_start x initiators j = grind (arith, common_steps)

ledger_start : (c : Setup) (deck : List JobData) (initiators : ℕ) → Ledger deck initiators (opening c) (start_points deck initiators) []
ledger_start c deck initiators = grind (arith, common_steps, sum_zero, next_at_start)

module _ (c : Setup) (deck : List JobData) (initiators : ℕ) (facts : Facts c (length deck) initiators) (sound : ArePlannedJobs 0 deck)
    (few : length deck ≤ not_to_run) where
  pub start_moment : NoneLost initiators (start_points deck initiators)
      → Moment c deck initiators (opening c) (start_points deck initiators) []
  start_moment f = grind (arith, common_steps, fits_opening, stand_start, rows_start, ledger_start)

  pub onward : (s : System) (t : Points) (past : List Entry) (e : Entry) (u : Points) → Moment c deck initiators s t past
      → IsNext c s e → Move deck initiators t e u → NoneLost initiators u → Moment c deck initiators (next s e) u (past ++ e ∷ [])
  onward s t past e u now n m f = record {
    kept = kept_next now.kept e;
    fits = fits_next c s e facts.posted n now.fits;
    stand = stand_next c deck initiators facts sound now.kept t u e m now.stand;
    none_lost = f;
    rows = rows_next c deck initiators now.kept s t u e now.stand n m now.rows;
    ledger = ledger_next c deck initiators few now.kept past s t u e now.stand now.rows now.none_lost f n m now.ledger;
  }

  -- What holds at the start and is kept from each moment to the next holds in the end, where no task is lost there.
  pub walk_moments : (P : System → Points → List Entry → Type 0)
      → ((s : System) (t u : Points) (past : List Entry) (e : Entry) → Moment c deck initiators s t past
      → Moment c deck initiators (next s e) u (past ++ e ∷ []) → IsNext c s e → Move deck initiators t e u
      → P s t past → P (next s e) u (past ++ e ∷ []))
      → P (opening c) (start_points deck initiators) []
      → (es : List Entry) (u : Points) → WalkTo c deck initiators (opening c) (start_points deck initiators) es u
      → NoneLost initiators u → Moment c deck initiators (after_from (opening c) es) u es × P (after_from (opening c) es) u es
  walk_moments P keeps start es u walk found =
      walk_keeps (λ s t past. NoneLost initiators t → Moment c deck initiators s t past × P s t past) c deck initiators
      (λ s t v past e n m p f.
      let w = p (none_lost_before deck initiators t v e m f) in
      let then_now = onward s t past e v w.0 n m f in (then_now, keeps s t v past e w.0 then_now n m w.1))
      (opening c) (start_points deck initiators) u [] es walk (λ f. (start_moment f, start)) found
