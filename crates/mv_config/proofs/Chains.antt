-- One exit more in the chains of exits.
use Rattle.std.proofs.Common.{◌≡◌, ℕ, zero, suc, ◌+◌, ◌-◌, ◌<◌, ◌≤◌, ◌==◌, true, List, [], ◌∷◌, ◌++◌, length, map, take, set}
use Rattle.std.proofs.Common.{replicate, get_or, Option, Some, None, option_map, slice_get, max, inl, inr, refl, sym, ap, ◌∙◌, subst}
use Rattle.std.proofs.Common.{arith}
use Rattle.std.specs.List.{AllByRecursion}
use Rattle.std.proofs.lemmas.Bool.{cases_eq, cases_lt, eq-eqb, eqb-true, ne_eqb, false≢true}
use Rattle.std.proofs.lemmas.Grind.{get_or-set_at, get_or_head}
use Rattle.std.proofs.lemmas.List.{map-append, take_more, append-nil, length-set, length_push, get_or-set_other, get_or_append_left}
use Rattle.std.proofs.lemmas.List.{get_or-append_right}
use Rattle.std.proofs.lemmas.List.Elements.{filter-append}
use Rattle.std.proofs.lemmas.Option.{slice_get-get_or, slice_get-map}
use Rattle.mv_config.specs.declared.config.Exit.{Exit}
use Rattle.mv_config.specs.Config.{exit_of}
use Rattle.mv_config.specs.Chains.{IsLast, AreChains}
use Rattle.mv_config.specs.Reach.{exits_of, greatest}
use Rattle.mv_config.specs.Setup.{SetupExit, starts_from}
use Rattle.mv_config.proofs.Reaches.{greatest-push}

-- an exit that is there starts from one block alone
one_source : (o : Option SetupExit) (d e : ℕ) → starts_from d o ≡ true → starts_from e o ≡ true → d ≡ e
one_source None d e hd he = absurd (false≢true hd)
one_source (Some x) d e hd he = sym (eqb-true x.source d hd) ∙ eqb-true x.source e he

module _ (xs : List SetupExit) (i : ℕ) (x : SetupExit) (lt : i < length xs) (at_i : slice_get xs i ≡ Some x) where
  read : get_or xs i x ≡ x
  read = let e : Some (get_or xs i x) ≡ Some x = sym (slice_get-get_or xs i x lt) ∙ at_i in cc e

  pub one_more : take (i + 1) xs ≡ take i xs ++ x ∷ []
  one_more = take_more xs i x lt ∙ ap (λ y. take i xs ++ y ∷ []) read

  -- an exit of another block is none of this one
  pub passed_over : (e : ℕ) → (x.source ≡ e → ⊥) → exits_of e (take (i + 1) xs) ≡ exits_of e (take i xs)
  passed_over e other =
      ap (exits_of e) one_more
      ∙ filter-append (λ y. y.source == e) (take i xs) (x ∷ [])
      ∙ rw (ne_eqb x.source e other) (append-nil (exits_of e (take i xs)))

  -- and an exit of the block is its last
  pub one_longer : (e : ℕ) → x.source ≡ e → exits_of e (take (i + 1) xs) ≡ exits_of e (take i xs) ++ x ∷ []
  one_longer e is =
      ap (exits_of e) one_more
      ∙ filter-append (λ y. y.source == e) (take i xs) (x ∷ [])
      ∙ rw (eq-eqb x.source e is) refl

  starts_here : starts_from x.source (slice_get xs i) ≡ true
  starts_here = rw at_i (eq-eqb x.source x.source refl)

  kept_last : (e m : ℕ) → (x.source ≡ e → ⊥) → IsLast e xs i m → IsLast e xs (i + 1) m
  kept_last e m other l = record { below = omega (arith, l.below); same = passed_over e other ∙ l.same; starts = l.starts }

  new_last : (m : ℕ) → m ≡ i + 1 → IsLast x.source xs (i + 1) m
  new_last m is =
      let before : m - 1 ≡ i = omega arith in
      record { below = omega arith; same = ap (λ k. exits_of x.source (take k xs)) (sym is); starts = λ _. rw before starts_here }

  pub chains_more : (n : ℕ) (last before : List ℕ) → x.source < n → AreChains n xs i last before
      → AreChains n xs (i + 1) (set last x.source (i + 1)) (before ++ get_or last x.source 0 ∷ [])
  chains_more n last before there c = record {
    blocks = length-set last x.source (i + 1) ∙ c.blocks;
    links = length_push before (get_or last x.source 0) ∙ ap (λ k. k + 1) c.links;
    last_of = λ e le. elim (cases_eq e x.source) [
      | inl same ↦ subst (λ b. IsLast b xs (i + 1) (get_or (set last x.source (i + 1)) e 0)) (sym same)
          (new_last _ (get_or-set_at last x.source e (i + 1) 0 same (omega (arith, c.blocks))))
      | inr other ↦ rw (get_or-set_other last x.source e (i + 1) 0 (λ k. other k))
          (kept_last e (get_or last e 0) (λ k. other (sym k)) (c.last_of e le))
    ];
    before_it = λ j e lj starts. elim (cases_lt j i) [
      | inl early ↦ rw (get_or_append_left before (get_or last x.source 0 ∷ []) 0 j (omega (arith, c.links))) (c.before_it j e early starts)
      | inr late ↦ at_end n last before there c j e (omega arith) starts
    ];
  } where
    at_end : (n : ℕ) (last before : List ℕ) → x.source < n → AreChains n xs i last before → (j e : ℕ) → j ≡ i
        → starts_from e (slice_get xs j) ≡ true → IsLast e xs j (get_or (before ++ get_or last x.source 0 ∷ []) j 0)
    at_end n last before there c j e is starts =
        let same : x.source ≡ e = one_source (slice_get xs i) x.source e starts_here (ap (λ k. starts_from e (slice_get xs k)) (sym is)
        ∙ starts) in
        let here : get_or (before ++ get_or last x.source 0 ∷ []) i 0 ≡ get_or last x.source 0 =
        get_or-append_right before (get_or last x.source 0 ∷ []) i i 0 c.links (omega arith)
        ∙ get_or_head (get_or last x.source 0) [] (i - i) 0 (omega arith) in
        rw is (rw here (subst (λ b. IsLast b xs i (get_or last x.source 0)) same (c.last_of x.source there)))

-- one exit back on the chain of a block
pub one_back : (F : SetupExit → ℕ) (xs : List SetupExit) (e k m : ℕ) (x : SetupExit) → 0 < k → k ≤ length xs → slice_get xs (k - 1) ≡ Some x
    → starts_from e (slice_get xs (k - 1)) ≡ true → IsLast e xs (k - 1) m
    → greatest (map F (exits_of e (take k xs))) ≡ max (greatest (map F (exits_of e (take m xs)))) (F x)
one_back F xs e k m x pos le at_k starts l =
    let source : x.source ≡ e = eqb-true x.source e (ap (starts_from e) (sym at_k) ∙ starts) in
    let whole : k - 1 + 1 ≡ k = omega arith in
    let longer : exits_of e (take (k - 1 + 1) xs) ≡ exits_of e (take (k - 1) xs) ++ x ∷ [] =
    one_longer xs (k - 1) x (omega arith) at_k e source in
    ap (λ i. greatest (map F (exits_of e (take i xs)))) (sym whole)
    ∙ ap (λ ys. greatest (map F ys)) (longer ∙ ap (λ ys. ys ++ x ∷ []) l.same)
    ∙ ap greatest (map-append F (exits_of e (take m xs)) (x ∷ []))
    ∙ greatest-push (map F (exits_of e (take m xs))) (F x)

-- an exit that is read, as contracts see it
pub found : (exits : List Exit) (i : ℕ) (e : Exit) → i < length exits → e ≡ get_or exits i e
    → slice_get (map exit_of exits) i ≡ Some (exit_of e)
found exits i e lt is = slice_get-map exit_of exits i ∙ ap (option_map exit_of) (slice_get-get_or exits i e lt ∙ ap (λ x. Some x) (sym is))

-- what holds of all elements, after one is written and in a list of copies
pub all_set : {A : Type 0} (P : A → Type 0) (xs : List A) (i : ℕ) (y : A) → P y → AllByRecursion P xs → AllByRecursion P (set xs i y)
all_set P [] i y p h = h
all_set P (x ∷ xs) zero y p h = (p, h.1)
all_set P (x ∷ xs) (suc i) y p h = (h.0, all_set P xs i y p h.1)

pub all_copies : {A : Type 0} (P : A → Type 0) (n : ℕ) (x : A) → P x → AllByRecursion P (replicate n x)
all_copies P zero x p = tt
all_copies P (suc n) x p = (p, all_copies P n x p)
