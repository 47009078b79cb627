-- Each run hands out each job once, with its code: specs/HandingOut. Each release is of a job or closes an initiator, and reaches its
-- pause; each initiator is closed once, and in the end all elements are free.
use Rattle.mv_plan.proofs.Words.{◌≡◌, ℕ, ◌<◌, ◌≤◌, List, [], ◌∷◌, ◌++◌, length, None, refl, sym, ap, ◌∙◌, subst, arith, AllByRecursion}
use Rattle.mv_plan.proofs.Words.{Entry, Element, Reply, IsNext, Setup, System, released_code, closings, IsRightRelease, JobData, scheduler}
use Rattle.mv_plan.proofs.Words.{initiator, Kept, ElementOp, Op, common_steps, Option, Some, ◌⊎◌, inl, inr, append-nil, filter_map}
use Rattle.mv_plan.proofs.Words.{filter_map-append, ElementState, element_step, Object, element_events, next, same_is, Phase, ◌-◌, ◌==◌}
use Rattle.mv_plan.proofs.Words.{Bool, if◌then◌else◌, eq-eqb, eqb-true, gift_code, naming, cases_lt, after, opening, released_codes}
use Rattle.mv_plan.proofs.Words.{given_codes, IsRun, spool_setup, code_of, true, admitted, AreHandedOut, end_of, not_run, false≢true, rules}
use Rattle.mv_plan.proofs.points.{same_errand, Point, At, Stage, Dispatching, SchedulerAt, Releases, scheduler_asks}
use Rattle.mv_plan.proofs.points.{scheduler_goes, stage_at, IsSchedulerAt, reader_plain, writer_plain, no_release, wait_no_release, Errand}
use Rattle.mv_plan.proofs.points.{Dismisses, Finishes, errand, IsNotLost, code_held, next_job, Dispatches}
use Rattle.mv_plan.proofs.walks.{Stand, Points, Move, entry_of, Each, of_move, Stood, stood, AreFinished, run_finished, none_lost_at_end}
use Rattle.mv_plan.proofs.walks.{NoneLost}
use Rattle.mv_machine.specs.Elements.{ElementEvent, as_element_event, accepted_code, givens, releases}
use Rattle.std.proofs.lemmas.Bool.{cases_order}
use Rattle.mv_machine.proofs.ElementLaws.{Answers, Known, known_more}
use Rattle.mv_machine.proofs.Subjects.{element_meets}
use Rattle.mv_machine.specs.Legal.{LegalFrom}
use Rattle.mv_plan.proofs.deck.{IsPlanned, few_jobs, facts}
use Rattle.mv_plan.proofs.standing.{RowAt, element_of, Rows}
use Rattle.mv_plan.proofs.places.{Ledger, element_code, Moment, walk_moments}
use Rattle.mv_plan.proofs.lists.{sum_zero, one_of}
use Rattle.mv_plan.specs.HandingOut.{IsHandedOut, right_code}
use Rattle.mv_plan.proofs.results.EndsPosted.{marks_are_right}
use Rattle.mv_plan.proofs.ends.{HasRightMark}
use Rattle.mv_plan.proofs.volumes.{with_code}

-- how many initiators were dismissed by then
abbrev pub dismissed_by : ℕ → Errand → ℕ
dismissed_by initiators (Dispatches j) = 0
dismissed_by initiators (Dismisses i) = i
dismissed_by initiators Finishes = initiators

-- the releases so far, where so many initiators were dismissed
pub record Closes (n initiators : ℕ) (past : List Entry) (dismissed : ℕ) : Type 0 where
  pub releases : AllByRecursion (λ e. IsRightRelease n initiators e.object e.op e.reply) past
  pub closed : (i : ℕ) → i < dismissed → length (closings (initiator i) past) ≡ 1
  pub unclosed : (i : ℕ) → dismissed ≤ i → length (closings (initiator i) past) ≡ 0

module _ (n initiators : ℕ) (past : List Entry) (d : ℕ) (w : Closes n initiators past d) (e : Entry) where
  closes_quiet : (d' : ℕ) → d' ≡ d → released_code e.op ≡ None → Closes n initiators (past ++ e ∷ []) d'
  closes_quiet d' q none = grind (arith, common_steps)

module _ (c : Setup) (deck : List JobData) (initiators : ℕ) (kept : ℕ → Kept) (past : List Entry) where
  abbrev n : ℕ
  n = length deck

  abbrev ClosesAt : Point SchedulerAt → List Entry → Type 0
  ClosesAt q es = Closes n initiators es (dismissed_by initiators (errand q))

  abbrev Closing : System → Points → Entry → Points → Type 0
  Closing s t e u = Stand deck initiators kept t → NoneLost initiators u → ClosesAt t.scheduler past → ClosesAt u.scheduler (past ++ e ∷ [])

  module _ (i g code p : ℕ) (r : Reply) where
    abbrev out : Entry
    out = record {
      caller = scheduler;
      object = Element (initiator i);
      place = p;
      op = Op.Element (ElementOp.Release g code);
      reply = r;
    }

    releasing : (after : Stage) (q : Point SchedulerAt) → q ≡ At (Releases i g code after)
        → IsSchedulerAt deck initiators (At (Releases i g code after))
        → IsNotLost (scheduler_goes n initiators (Releases i g code after) r)
        → ClosesAt q past → ClosesAt (scheduler_goes n initiators (Releases i g code after) r) (past ++ out ∷ [])
    releasing x q at sound f w = grind (arith, common_steps)

  scheduled : (x : SchedulerAt) (p : ℕ) (r : Reply) (q : Point SchedulerAt) → q ≡ At x → IsSchedulerAt deck initiators (At x)
      → IsNotLost (scheduler_goes n initiators x r)
      → ClosesAt q past → ClosesAt (scheduler_goes n initiators x r) (past ++ entry_of scheduler p (scheduler_asks n x) r ∷ [])
  scheduled x p r q at sound f w = grind (arith, common_steps, closes_quiet, past, same_errand, wait_no_release, releasing)

  each_closing : Each c deck initiators Closing
  each_closing = grind (arith, common_steps, closes_quiet, past, reader_plain, scheduled, no_release, writer_plain)

  pub closes_next : (s : System) (t u : Points) (e : Entry) → IsNext c s e → Move deck initiators t e u → Stand deck initiators kept t
      → NoneLost initiators u → ClosesAt t.scheduler past → ClosesAt u.scheduler (past ++ e ∷ [])
  closes_next s t u e nx m st f w = of_move c deck initiators Closing each_closing s t u e nx m st f w

-- before the first entry
pub closes_start : (deck : List JobData) (initiators : ℕ)
    → Closes (length deck) initiators [] (dismissed_by initiators (errand (stage_at (length deck) initiators (Dispatching 0 deck))))
closes_start deck initiators = grind (arith, common_steps)

-- ---- a close finds no code

abbrev pub FindsNone : ElementOp → ElementState → Type 0
FindsNone (ElementOp.Close g) x = code_held x ≡ None
FindsNone op x = Unit {0}

-- the releases and gifts of generation g so far, by the state that they led to; none is left without its gift
pub record Exacting (g : ℕ) (rel giv : List ℕ) (x : ElementState) : Type 0 where
  pub known : Known g rel giv x
  pub matched : g < x.generation → giv ≡ [] → rel ≡ []

exacting_more : (g : ℕ) (rel giv : List ℕ) (x : ElementState) (v : ElementEvent) → Answers x v → FindsNone v.op x → Exacting g rel giv x
    → Exacting g (rel ++ releases g (v ∷ [])) (giv ++ givens g (v ∷ [])) (element_step v.op x).0
exacting_more g rel giv x v a f w = grind (arith, common_steps, known_more, cases_order)

-- an event that closes an element finds no code in it
abbrev pub ClosesNone : System → Object → Op → Type 0
ClosesNone s (Element m) (Op.Element op) = FindsNone op (s.element m).state
ClosesNone s o op = Unit {0}

-- all elements, behind these entries
abbrev pub AreExacting : System → List Entry → Type 0
AreExacting s past = (m g : ℕ) → Exacting g (releases g (element_events m past)) (givens g (element_events m past)) (s.element m).state

events_same : (m : ℕ) (past : List Entry) (e : Entry) → as_element_event m e ≡ None
    → element_events m (past ++ e ∷ []) ≡ element_events m past
events_same m past e q = filter_map-append (as_element_event m) past (e ∷ []) ∙ rw q (append-nil (element_events m past))

events_more : (m : ℕ) (past : List Entry) (e : Entry) (v : ElementEvent) → as_element_event m e ≡ Some v
    → element_events m (past ++ e ∷ []) ≡ element_events m past ++ v ∷ []
events_more m past e v q = filter_map-append (as_element_event m) past (e ∷ []) ∙ rw q refl

exacting_at : (g : ℕ) (vs ws : List ElementEvent) (x y : ElementState) → ws ≡ vs → y ≡ x → Exacting g (releases g vs) (givens g vs) x
    → Exacting g (releases g ws) (givens g ws) y
exacting_at g vs ws x y e q w = rw (e, q) w

exacting_push : (g : ℕ) (vs : List ElementEvent) (v : ElementEvent) (y : ElementState)
    → Exacting g (releases g vs ++ releases g (v ∷ [])) (givens g vs ++ givens g (v ∷ [])) y
    → Exacting g (releases g (vs ++ v ∷ [])) (givens g (vs ++ v ∷ [])) y
exacting_push g vs v y w = grind (arith, common_steps, filter_map-append)

pub exacting_next : (c : Setup) (s : System) (past : List Entry) (e : Entry) → IsNext c s e → ClosesNone s e.object e.op
    → AreExacting s past → AreExacting (next s e) (past ++ e ∷ [])
exacting_next c s past e n none w m g = elim (element_meets c m s e n) [
  | inl p ↦ exacting_at g (element_events m past) _ (s.element m).state _ (events_same m past e p.none) (ap (λ z. z.state) p.kept) (w m g)
  | inr v ↦ exacting_at g (element_events m past ++ v.event ∷ []) _ (element_step v.event.op (s.element m).state).0 _
      (events_more m past e v.event v.is) (ap (λ z. z.state) v.after)
      (exacting_push g (element_events m past) v.event _
      (exacting_more g (releases g (element_events m past)) (givens g (element_events m past)) (s.element m).state v.event
      v.answered.reply (subst (λ z. ClosesNone s (Element m) z) v.op
      (subst (λ z. ClosesNone s z e.op) (same_is e.object (Element m) v.there) none)) (w m g)))
]

-- ---- in the end, where an element holds no code

contains_more : {A : Type 0} (f : A → Option ℕ) (before later : List A) (v : A) (code : ℕ) → f v ≡ Some code
    → filter_map f (before ++ v ∷ later) ≡ filter_map f before ++ (code ∷ filter_map f later)
contains_more f before later v code e = filter_map-append f before (v ∷ later) ∙ rw e refl

not_nil : (xs ys : List ℕ) (x : ℕ) → xs ++ (x ∷ ys) ≡ [] → ⊥
not_nil [] ys x e = cc e
not_nil (z ∷ xs) ys x e = cc e

one_item : (xs ys : List ℕ) (x y : ℕ) → xs ++ (x ∷ ys) ≡ y ∷ [] → x ≡ y
one_item [] ys x y e = cc e
one_item (z ∷ xs) ys x y e = absurd (not_nil xs ys x (cc e))

pub exact_end : (g code : ℕ) (x : ElementState) (before later vs : List ElementEvent) (v : ElementEvent) → x.phase ≡ Phase.Free
    → vs ≡ before ++ v ∷ later → accepted_code g v ≡ Some code
    → Exacting g (releases g vs) (givens g vs) x → givens g vs ≡ code ∷ []
exact_end g code x before later vs v idle split is w = go (cases_order x.generation g) where
  there : releases g vs ≡ releases g before ++ (code ∷ releases g later)
  there = ap (λ z. releases g z) split ∙ contains_more (accepted_code g) before later v code is

  some : releases g vs ≡ [] → ⊥
  some none = not_nil (releases g before) (releases g later) code (sym there ∙ none)

  go : (x.generation ≡ g) ⊎ (x.generation < g) ⊎ (g < x.generation) → givens g vs ≡ code ∷ []
  go (inl same) = absurd (some ((w.known.now same).0 ∙ rw idle refl))
  go (inr (inl before)) = absurd (some (w.known.future before).0)
  go (inr (inr after)) = past (w.known.past after) where
    past : (givens g vs ≡ []) ⊎ ((c : ℕ) × (givens g vs ≡ c ∷ []) × (releases g vs ≡ c ∷ [])) → givens g vs ≡ code ∷ []
    past (inl none) = absurd (some (w.matched after none))
    past (inr one) = one.1 ∙ ap (λ z. z ∷ []) (sym (one_item (releases g before) (releases g later) code one.0 (sym there ∙ one.2)))

-- ---- an element is closed while it holds no code

module _ (c : Setup) (deck : List JobData) (initiators : ℕ) where
  abbrev ClosesWell : System → Points → Entry → Points → Type 0
  ClosesWell s t e u = Rows deck initiators s t → ClosesNone s e.object e.op

  each_closes_none : Each c deck initiators ClosesWell
  each_closes_none = grind (arith, common_steps)

  pub closes_none : (s : System) (t u : Points) (e : Entry) → IsNext c s e → Move deck initiators t e u → Rows deck initiators s t
      → ClosesNone s e.object e.op
  closes_none s t u e nx m w = of_move c deck initiators ClosesWell each_closes_none s t u e nx m w

-- ---- lists of codes

-- a code, where it is another than this
abbrev but : ℕ → Option ℕ → Option ℕ
but code None = None
but code (Some c) = if c == code then None else Some c

but-twice : {X : Type 0} (code : ℕ) (f : X → Option ℕ) (xs : List X)
    → filter_map (λ x. but code (f x)) xs ≡ filter_map (λ c. but code (Some c)) (filter_map f xs)
but-twice code f [] = refl
but-twice code f (x ∷ xs) = grind (arith, common_steps, but-twice code f xs)

one_code : (code : ℕ) (cs : List ℕ) → length cs ≡ 1 → length (filter_map (λ c. but code (Some c)) cs) ≡ 0 → cs ≡ code ∷ []
one_code code [] one none = absurd (cc one)
one_code code (c ∷ []) one none = grind (arith, common_steps, eqb-true)
one_code code (c ∷ d ∷ cs) one none = absurd (omega arith)

-- ---- the end

free_none : (x : ElementState) → x.phase ≡ Phase.Free → code_held x ≡ None
free_none x e = rw e refl

module _ (deck : List JobData) (initiators : ℕ) (s : System) (t : Points) (past : List Entry) (rows : Rows deck initiators s t)
    (finished : AreFinished initiators t) where
  -- all elements are free
  pub elements_free : (m : ℕ) → (s.element m).state.phase ≡ Phase.Free
  elements_free m = elim (cases_lt m 2) [
    | inl low ↦ ap (λ z. z.phase) (rows.others m (λ i lt e. absurd (omega arith)))
    | inr ge ↦ elim (cases_lt (m - 2) initiators) [
      | inl lt ↦ subst (λ k. (s.element k).state.phase ≡ Phase.Free) (back m ge) (own (m - 2) lt)
      | inr high ↦ ap (λ z. z.phase) (rows.others m (λ i lt e. absurd (omega arith)))
    ]
  ] where
    back : (m : ℕ) → 2 ≤ m → initiator (m - 2) ≡ m
    back m ge = omega arith

    own : (i : ℕ) → i < initiators → (element_of s i).phase ≡ Phase.Free
    own i lt = (subst (λ p. RowAt (length deck) s t.scheduler i p) (finished.at_initiator i lt).1 (rows.rows i lt)).2

  -- a job that was released once was given once, with its code
  given_once : Ledger deck initiators s t past → (j code : ℕ) → released_codes j past ≡ code ∷ [] → given_codes j past ≡ code ∷ []
  given_once w j code is = one_code code (given_codes j past) (all_given (naming j) refl ∙ ap length is)
      (sym (ap length (but-twice code (λ e. naming j (gift_code e.reply)) past))
      ∙ all_given (λ slot. but code (naming j slot)) refl
      ∙ ap length (but-twice code (λ e. naming j (released_code e.op)) past ∙ ap (filter_map (λ c. but code (Some c))) is)
      ∙ ap (λ b. length (filter_map (λ c. if b then None else Some c) (code ∷ []))) (eq-eqb code code refl)) where
        -- of the codes that are picked, all are given
        all_given : (pick : Option ℕ → Option ℕ) → pick None ≡ None
            → length (filter_map (λ e. pick (gift_code e.reply)) past) ≡ length (filter_map (λ e. pick (released_code e.op)) past)
        all_given pick none = let a = w.codes pick none in
            let b = sum_zero initiators (λ i. one_of (pick (element_code s i)))
            (λ i less. ap (λ z. one_of (pick z)) (free_none (element_of s i) (elements_free (initiator i))) ∙ ap one_of none) in omega arith

-- what each moment has besides
pub record HandsOut (deck : List JobData) (initiators : ℕ) (s : System) (t : Points) (past : List Entry) : Type 0 where
  pub closes : Closes (length deck) initiators past (dismissed_by initiators (errand t.scheduler))
  pub exacts : AreExacting s past

exact_start : (c : Setup) → AreExacting (opening c) []
exact_start c m g = grind (arith, common_steps)

-- ---- the marks

-- an element's operation is made on an element
on_element : (c : Setup) (s : System) (k : ℕ) (o : Object) (op : ElementOp) → admitted c s k o (Op.Element op) ≡ true
    → (m : ℕ) × (o ≡ Element m)
on_element c s k y op a = grind (arith, common_steps, false≢true)

released-step : (j : ℕ) (e : Entry) (es : List Entry)
    → released_codes j (e ∷ es) ≡ with_code (naming j (released_code e.op)) (released_codes j es)
released-step j e es = search rules

naming_same : (j : ℕ) (slot : Option ℕ) (code : ℕ) → naming j slot ≡ Some code → slot ≡ Some code
naming_same j slot code e = grind (arith, common_steps)

release_is : (op : Op) (code : ℕ) → released_code op ≡ Some code → (g : ℕ) × (op ≡ Op.Element (ElementOp.Release g code))
release_is op code e = grind (arith, common_steps)

-- the mark of the release that names a job
pub release_marks : (c : Setup) (deck : List JobData) (s : System) (es : List Entry) (j : ℕ) (skipped : Bool) → LegalFrom c s es
    → AllByRecursion (HasRightMark deck) es → j < length deck
    → released_codes j es ≡ code_of j skipped ∷ [] → skipped ≡ (end_of deck j == not_run)
release_marks c deck s [] j skipped l a lt e = absurd (cc e)
release_marks c deck s (x ∷ es) j skipped l a lt e =
    go (naming j (released_code x.op)) refl (sym (released-step j x es) ∙ e)
    (release_marks c deck (next s x) es j skipped l.1 a.1 lt) where
      go : (slot : Option ℕ) → naming j (released_code x.op) ≡ slot → with_code slot (released_codes j es) ≡ code_of j skipped ∷ []
          → (released_codes j es ≡ code_of j skipped ∷ [] → skipped ≡ (end_of deck j == not_run)) → skipped ≡ (end_of deck j == not_run)
      go slot q f rest = search (rules, release_is, naming_same, on_element)

module _ (deck : List JobData) (initiators : ℕ) (some : 1 ≤ initiators) (sound : IsPlanned deck initiators) (es : List Entry)
    (run : IsRun deck initiators es) where
  abbrev c : Setup
  c = spool_setup deck initiators

  st : Stood deck initiators some sound es
  st = stood deck initiators some sound es run.follow

  finished : AreFinished initiators st.points
  finished = run_finished deck initiators some sound es run st

  ended : (end : Moment c deck initiators (after c es) st.points es) × HandsOut deck initiators (after c es) st.points es
  ended = walk_moments c deck initiators (facts deck initiators some) sound.jobs (few_jobs deck initiators sound)
      (λ s t past. HandsOut deck initiators s t past)
      (λ s t u past e now then_now nx m w. record {
        closes = closes_next c deck initiators now.kept past s t u e nx m now.stand then_now.none_lost w.closes;
        exacts = exacting_next c s past e nx (closes_none c deck initiators s t u e nx m now.rows) w.exacts;
      })
      (record { closes = closes_start deck initiators; exacts = exact_start c })
      es st.points st.walk (none_lost_at_end initiators st.points finished)

  all_free : (m : ℕ) → ((after c es).element m).state.phase ≡ Phase.Free
  all_free m = elements_free deck initiators (after c es) st.points es ended.0.rows finished m

  handed_out : (j : ℕ) → j < length deck → IsHandedOut deck es j
  handed_out j lt = record {
    released = once;
    given = given_once deck initiators (after c es) st.points es ended.0.rows finished ended.0.ledger j (right_code deck j) once;
  } where
    one : (skipped : Bool) × (released_codes j es ≡ code_of j skipped ∷ [])
    one = (ended.0.ledger.released j lt).1 (subst (λ p. j < next_job (length deck) p) (sym finished.at_scheduler.1) lt)

    once : released_codes j es ≡ right_code deck j ∷ []
    once = one.1 ∙ ap (λ b. code_of j b ∷ []) (release_marks c deck (opening c) es j one.0 run.follow.legal
        (marks_are_right deck initiators some sound es run) lt one.1)

  pub are_handed_out : AreHandedOut deck initiators es
  are_handed_out = record {
    jobs = handed_out;
    releases = ended.1.closes.releases;
    closing = λ i lt. ended.1.closes.closed i
        (subst (λ k. i < k) (sym (ap (λ z. dismissed_by initiators (errand z)) finished.at_scheduler.1)) lt);
    exact = λ m g code before later v split is.
        exact_end g code ((after c es).element m).state before later (element_events m es) v (all_free m) split is (ended.1.exacts m g);
    free = all_free;
  }
