-- Each run counts alone and purges each job once: specs/CountingAlone and specs/Purging.
use Rattle.mv_plan.proofs.Words.{◌≡◌, ℕ, suc, ◌+◌, ◌<◌, ◌≤◌, ◌==◌, Bool, true, false, if◌then◌else◌, List, [], ◌∷◌, ◌++◌, length, Some, ◌⊎◌}
use Rattle.mv_plan.proofs.Words.{inl, inr, refl, sym, ap, ◌∙◌, subst, append-nil, append_assoc, arith, AllByRecursion, eq-eqb, eqb-true}
use Rattle.mv_plan.proofs.Words.{Request, list_of, Entry, Volume, next, after_from, of, Setup, System, opening, mine, is_obtain, purges}
use Rattle.mv_plan.proofs.Words.{AreHandedOut, ArePurged, JobData, total, IsRun, initiator, spool_setup, purged_by, common_steps}
use Rattle.mv_plan.specs.Purging.{obtains}
use Rattle.mv_plan.specs.CountingAlone.{AreCountedAlone, IsCountedBy, CountsStandAlone, ScansAreSteady}
use Rattle.mv_plan.proofs.deck.{IsPlanned, few_jobs, facts}
use Rattle.mv_plan.proofs.walks.{Always, NoneLost, always_now, always_next, always_later, walk_later, Stood, stood, AreFinished}
use Rattle.mv_plan.proofs.walks.{run_finished, Mover, who_moved, Points, start_points, Move, WalkTo, walk-parts, none_lost_along}
use Rattle.mv_plan.proofs.walks.{none_lost_at_end}
use Rattle.mv_plan.proofs.volumes.{CountMoments, mover, quiet_point, due, count_apart, scan_steady, adds_total}
use Rattle.mv_plan.proofs.latches.{works, grip, OwnsBy, IsKnown}
use Rattle.mv_plan.proofs.points.{At, InitiatorAt, Opening, initiator_asks}
use Rattle.mv_plan.proofs.serving.{work, unpurged, purges-push, one_if, served_start, served_next, ledger_once, moment_sound, Served}
use Rattle.mv_plan.proofs.lists.{sum_zero}
use Rattle.mv_plan.proofs.places.{Moment, walk_moments}
use Rattle.mv_plan.proofs.results.HandedOut.{are_handed_out}

-- what a caller did last among some entries, if it did anything
record LastOf (k : ℕ) (es : List Entry) : Type 0 where
  front : List Entry
  one : Entry
  behind : List Entry
  is : es ≡ front ++ one ∷ behind
  caller : one.caller ≡ k
  last : of k behind ≡ []

last_of : (k : ℕ) (es : List Entry) → (of k es ≡ []) ⊎ LastOf k es
last_of k [] = inl refl
last_of k (e ∷ es) = go (last_of k es) (e.caller == k) refl where
  go : (of k es ≡ []) ⊎ LastOf k es → (b : Bool) → (e.caller == k) ≡ b → ((if b then e ∷ of k es else of k es) ≡ []) ⊎ LastOf k (e ∷ es)
  go (inr w) b q = inr (record {
    front = e ∷ w.front;
    one = w.one;
    behind = w.behind;
    is = ap (λ l. e ∷ l) w.is;
    caller = w.caller;
    last = w.last;
  })
  go (inl none) true q = inr (record { front = []; one = e; behind = es; is = refl; caller = eqb-true e.caller k q; last = none })
  go (inl none) false q = inl none

-- all lists are empty
all_empty : (lists : List (List Request)) → ((latch : ℕ) → list_of lists latch ≡ []) → AllByRecursion (λ qs. qs ≡ []) lists
all_empty [] e = tt
all_empty (qs ∷ lists) e = (e 0, all_empty lists (λ latch. e (suc latch)))

module _ (deck : List JobData) (initiators : ℕ) (some : 1 ≤ initiators) (sound : IsPlanned deck initiators) (es : List Entry)
    (run : IsRun deck initiators es) where
  abbrev c : Setup
  c = spool_setup deck initiators

  abbrev AtEach : (System → Points → List Entry → Type 0) → List Entry → Type 0
  AtEach Q l = Always c deck initiators Q (opening c) (start_points deck initiators) [] l

  st : Stood deck initiators some sound es
  st = stood deck initiators some sound es run.follow

  abbrev u : Points
  u = st.points

  ended : AreFinished initiators u
  ended = run_finished deck initiators some sound es run st

  none : NoneLost initiators u
  none = none_lost_at_end initiators u ended

  handed : AreHandedOut deck initiators es
  handed = are_handed_out deck initiators some sound es run

  walk_of : (l : List Entry) → es ≡ l → WalkTo c deck initiators (opening c) (start_points deck initiators) l u
  walk_of l q = subst (λ z. WalkTo c deck initiators (opening c) (start_points deck initiators) z u) q st.walk

  -- what holds at each moment
  abbrev Known : System → Points → List Entry → Type 0
  Known s t past = Moment c deck initiators s t past × Served deck initiators s t past

  known : (l : List Entry) → es ≡ l → AtEach Known l
  known l is xs ys v q w = walk_moments c deck initiators (facts deck initiators some) sound.jobs (few_jobs deck initiators sound)
      (Served deck initiators)
      (λ s t u past e now then_now n m w. served_next c deck initiators s t u past e (few_jobs deck initiators sound) now n m w)
      (served_start c deck initiators) xs v w
      (none_lost_along c deck initiators (after_from (opening c) xs) v u ys
      (walk_later c deck initiators (opening c) (start_points deck initiators) v u xs ys (walk_of (xs ++ ys) (is ∙ q)) w) none)

  moments : (l : List Entry) → es ≡ l → AtEach (CountMoments c deck initiators) l
  moments l is xs ys v q w = let m = known l is xs ys v q w in
      record { sound = moment_sound c deck initiators (after_from (opening c) xs) v xs m.0; latched = m.1.latched }

  at_end : Known (after_from (opening c) es) u es
  at_end = known es refl es [] u (sym (append-nil es)) st.walk

  -- ---- volumes

  counts_stand_alone : CountsStandAlone es
  counts_stand_alone front rest e v n q on wrote = go (last_of e.caller front) where
    parts : (t : Points) × WalkTo c deck initiators (opening c) (start_points deck initiators) front t
        × WalkTo c deck initiators (after_from (opening c) front) t (e ∷ rest) u
    parts = walk-parts c deck initiators (opening c) (start_points deck initiators) u front (e ∷ rest) (walk_of (front ++ e ∷ rest) q)

    it : Mover deck initiators parts.0 (parts.2).0 e
    it = mover deck initiators v parts.0 (parts.2).0 e (parts.2).2 on

    opens : (x : InitiatorAt) → At x ≡ At Opening → (initiator_asks (length deck) it.number x).0 ≡ Volume v → ⊥
    opens x f g = let y : x ≡ Opening = cc f in absurd (cc (sym (ap (λ z. (initiator_asks (length deck) it.number z).0) y) ∙ g))

    go : (of e.caller front ≡ []) ⊎ LastOf e.caller front → IsCountedBy e.caller v n front
    go (inl none) = absurd (opens it.point
        (sym it.stands ∙ quiet_point c deck initiators it.number (opening c) (start_points deck initiators) parts.0 front parts.1
        (subst (λ k. of k front ≡ []) it.caller none)) (sym it.object ∙ on))
    go (inr w) =
        let whole : es ≡ w.front ++ w.one ∷ (w.behind ++ e ∷ rest) = q ∙ ap (λ l. l ++ e ∷ rest) w.is
        ∙ append_assoc w.front (w.one ∷ w.behind) (e ∷ rest) in
        subst (IsCountedBy e.caller v n) (sym w.is)
        (count_apart c deck initiators (opening c) (start_points deck initiators) u w.front w.behind rest w.one e
        (walk_of _ whole) (moments _ whole) w.caller w.last v on n wrote)

  scans_are_steady : ScansAreSteady es
  scans_are_steady front between rest a b v q ao ap_ bo bp same quiet =
      scan_steady c deck initiators (opening c) (start_points deck initiators) u front between rest a b (walk_of _ q)
      (moments _ q) same quiet v bo bp ao ap_

  last_numbers : (v : ℕ) → ((after_from (opening c) es).volume v).state ≡ total deck v
  last_numbers v =
      let b = at_end.1.balance none v in
      let z = sum_zero initiators (λ i. due v (u.initiators i)) (λ i lt. ap (due v) (ended.at_initiator i lt).1) in
      let t = adds_total deck v es (λ j lt. (handed.jobs j lt).given) in omega arith

  -- ---- requestors

  purged_once : (j : ℕ) → j < length deck → length (purges (j + 1) es) ≡ 1
  purged_once j lt =
      let b = at_end.1.works none j lt in
      let z = sum_zero initiators (λ i. work j (u.initiators i)) (λ i less. ap (work j) (ended.at_initiator i less).1) in
      let g = ap length (handed.jobs j lt).given in omega arith

  none_listed : (qs : List Request) → AllByRecursion (IsKnown initiators) qs → ((i : ℕ) → i < initiators → mine (initiator i) qs ≡ [])
      → qs ≡ []
  none_listed [] a f = refl
  none_listed (q ∷ qs) a f = absurd (cc (sym (first (a.0).0 (a.0).2) ∙ f (a.0).0 (a.0).1)) where
    first : (i : ℕ) → q.caller ≡ initiator i → mine (initiator i) (q ∷ qs) ≡ q ∷ mine (initiator i) qs
    first i e = ap (λ b. if b then q ∷ mine (initiator i) qs else mine (initiator i) qs) (eq-eqb q.caller (initiator i) e)

  no_requests : (latch : ℕ) → list_of (after_from (opening c) es).latches.state latch ≡ []
  no_requests latch =
      none_listed (list_of (after_from (opening c) es).latches.state latch) (at_end.1.latched.hands.known latch)
      (λ i lt. (subst (λ p. OwnsBy (after_from (opening c) es).latches.state (initiator i) (grip p)) (ended.at_initiator i lt).1
      (at_end.1.latched.hands.owns i lt)) latch)

  -- an obtain is made by who works on the job
  asks_obtain : (n i j : ℕ) (x : InitiatorAt) → is_obtain (j + 1) (initiator_asks n i x).1 ≡ true → works (At x) ≡ Some j
  asks_obtain n i j x e = grind (arith, common_steps)

  not_again : (j : ℕ) (s : System) (t v : Points) (past : List Entry) (e : Entry) → j < length deck → Move deck initiators t e v
      → Known s t past → 1 ≤ length (purges (j + 1) past) → is_obtain (j + 1) e.op ≡ false
  not_again j s t v past e lt moves w p = elim (who_moved deck initiators t v e moves) [
    | inl a ↦ (a.no_request (j + 1)).1
    | inr m ↦ go m (is_obtain (j + 1) e.op) refl
  ] where
    go : (m : Mover deck initiators t v e) (b : Bool) → is_obtain (j + 1) e.op ≡ b → b ≡ false
    go m false f = refl
    go m true f =
        let at_work = ap works m.stands ∙ asks_obtain (length deck) m.number j m.point (sym (ap (is_obtain (j + 1)) m.op) ∙ f) in
        let z = unpurged deck initiators t past m.number j m.below lt at_work w.0.none_lost w.1.works
        (ledger_once deck initiators s t past w.0.ledger) in
        absurd (omega arith)

  no_more : (j : ℕ) (s : System) (t v : Points) (past rest : List Entry) → j < length deck → WalkTo c deck initiators s t rest v
      → Always c deck initiators Known s t past rest
      → 1 ≤ length (purges (j + 1) past) → obtains (j + 1) rest ≡ []
  no_more j s t v past [] lt w a p = refl
  no_more j s t v past (e ∷ rest) lt w a p =
      ap (λ b. if b then e ∷ obtains (j + 1) rest else obtains (j + 1) rest)
      (not_again j s t w.0 past e lt w.2 (always_now c deck initiators Known s t past (e ∷ rest) a) p)
      ∙ no_more j (next s e) w.0 v (past ++ e ∷ []) rest lt w.3 (always_next c deck initiators Known s t w.0 past e rest w.1 w.2 a)
      (let m : length (purges (j + 1) (past ++ e ∷ [])) ≡ length (purges (j + 1) past) + one_if (purged_by (j + 1) e.op) = purges-push
      (j + 1) past e in omega arith)

  no_obtain_after : (j : ℕ) (front rest : List Entry) (e : Entry) → j < length deck → es ≡ front ++ e ∷ rest
      → purged_by (j + 1) e.op ≡ true → obtains (j + 1) rest ≡ []
  no_obtain_after j front rest e lt q is =
      no_more j (next (after_from (opening c) front) e) (parts.2).0 u (([] ++ front) ++ e ∷ []) rest lt (parts.2).3
      (always_next c deck initiators Known (after_from (opening c) front) parts.0 (parts.2).0 ([] ++ front) e rest (parts.2).1
      (parts.2).2
      (always_later c deck initiators Known (opening c) (start_points deck initiators) parts.0 [] front (e ∷ rest) parts.1
      (known _ q)))
      (let m : length (purges (j + 1) (front ++ e ∷ [])) ≡ length (purges (j + 1) front) + one_if (purged_by (j + 1) e.op) = purges-push
      (j + 1) front e in
      let one : one_if (purged_by (j + 1) e.op) ≡ 1 = ap one_if is in omega arith) where
        parts : (t : Points) × WalkTo c deck initiators (opening c) (start_points deck initiators) front t
            × WalkTo c deck initiators (after_from (opening c) front) t (e ∷ rest) u
        parts = walk-parts c deck initiators (opening c) (start_points deck initiators) u front (e ∷ rest) (walk_of (front ++ e ∷ rest) q)

  pub are_purged_once : ArePurged deck initiators es
  are_purged_once = grind (arith, common_steps, purged_once, no_obtain_after, all_empty, no_requests)

  pub are_counted_alone : AreCountedAlone deck initiators es
  are_counted_alone = record { counts = counts_stand_alone; scans = scans_are_steady; totals = last_numbers }
