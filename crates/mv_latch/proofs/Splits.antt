-- Lists of requests: what filters keep, and how a list parts into those that hold the latch and those behind.
use Rattle.std.proofs.Common.{◌≡◌, ℕ, ◌+◌, ◌<◌, ◌≤◌, get_or, Bool, true, false, ◌||◌, List, [], ◌∷◌}
use Rattle.std.proofs.Common.{◌++◌, length, drop, filter, cond, refl, ap, ◌∙◌, arith, length-append}
use Rattle.std.specs.List.{AllByRecursion, list_any}
use Rattle.std.proofs.lemmas.List.{drop_more}
use Rattle.std.proofs.lemmas.List.Elements.{filter-append}
use Rattle.std.proofs.lemmas.Bool.{eq-eqb}
use Rattle.mv_latch.specs.declared.request.Request.{Request}
use Rattle.mv_latch.specs.Request.{shared_request, has_id}
use Rattle.mv_latch.specs.Latch.{shared_front, granted, waiting, HasDistinctIds}

-- what holds of each element holds of each that a filter leaves
pub all_filter : {A : Type 0} (P : A → Type 0) (t : A → Bool) (xs : List A) → AllByRecursion P xs → AllByRecursion P (filter t xs)
all_filter P t [] a = tt
all_filter P t (x ∷ xs) a =
    elim (t x) as (λ b. AllByRecursion P (cond b (x ∷ filter t xs) (filter t xs)))
    [ true ↦ (a.0, all_filter P t xs a.1) | false ↦ all_filter P t xs a.1 ]

pub all_front : (P : Request → Type 0) (qs : List Request) → AllByRecursion P qs → AllByRecursion P (shared_front qs)
all_front P [] a = tt
all_front P (q ∷ qs) a =
    elim (shared_request q) as (λ t. AllByRecursion P (cond t (q ∷ shared_front qs) [])) [ true ↦ (a.0, all_front P qs a.1) | false ↦ tt ]

pub all_granted : (P : Request → Type 0) (qs : List Request) → AllByRecursion P qs → AllByRecursion P (granted qs)
all_granted P [] a = tt
all_granted P (q ∷ qs) a =
    elim (shared_request q) as (λ t. AllByRecursion P (cond t (cond t (q ∷ shared_front qs) []) (q ∷ [])))
    [ true ↦ (a.0, all_front P qs a.1) | false ↦ (a.0, tt) ]

pub front_shared : (qs : List Request) → AllByRecursion (λ q. shared_request q ≡ true) (shared_front qs)
front_shared [] = tt
front_shared (q ∷ qs) = go (shared_request q) refl (front_shared qs) where
  go : (t : Bool) → shared_request q ≡ t → AllByRecursion (λ q. shared_request q ≡ true) (shared_front qs)
      → AllByRecursion (λ q. shared_request q ≡ true) (cond t (q ∷ shared_front qs) [])
  go true e ih = (e, ih)
  go false e ih = tt

-- ---- the front and the rest
pub front_split : (qs : List Request) → shared_front qs ++ drop (length (shared_front qs)) qs ≡ qs
front_split [] = refl
front_split (q ∷ qs) = go (shared_request q) (front_split qs) where
  go : (t : Bool) → shared_front qs ++ drop (length (shared_front qs)) qs ≡ qs
      → cond t (q ∷ shared_front qs) [] ++ drop (length (cond t (q ∷ shared_front qs) [])) (q ∷ qs) ≡ q ∷ qs
  go true ih = ap (λ z. q ∷ z) ih
  go false ih = refl

-- those that hold the latch, and those behind, are the whole list in its order
pub granted_split : (qs : List Request) → granted qs ++ waiting qs ≡ qs
granted_split [] = refl
granted_split (q ∷ qs) = go (shared_request q) (front_split qs) where
  go : (t : Bool) → shared_front qs ++ drop (length (shared_front qs)) qs ≡ qs
      → cond t (cond t (q ∷ shared_front qs) []) (q ∷ [])
      ++ drop (length (cond t (cond t (q ∷ shared_front qs) []) (q ∷ []))) (q ∷ qs) ≡ q ∷ qs
  go true ih = ap (λ z. q ∷ z) ih
  go false ih = refl

-- ---- counts of a test
pub count_split : (t : Request → Bool) (xs ys : List Request) → length (filter t (xs ++ ys)) ≡ length (filter t xs) + length (filter t ys)
count_split t xs ys = ap length (filter-append t xs ys) ∙ length-append (filter t xs) (filter t ys)

pub count_tail : (t : Request → Bool) (q : Request) (qs : List Request) → length (filter t qs) ≤ length (filter t (q ∷ qs))
count_tail t q qs =
    elim (t q) as (λ b. length (filter t qs) ≤ length (cond b (q ∷ filter t qs) (filter t qs))) [ true ↦ omega arith | false ↦ omega arith ]

pub count_filter : (t p : Request → Bool) (qs : List Request) → length (filter t (filter p qs)) ≤ length (filter t qs)
count_filter t p [] = omega arith
count_filter t p (q ∷ qs) = more (p q) (t q) (count_filter t p qs) where
  more : (b s : Bool) → length (filter t (filter p qs)) ≤ length (filter t qs)
      → length (filter t (cond b (q ∷ filter p qs) (filter p qs))) ≤ length (filter t (q ∷ qs))
  more b s ih = grind (arith, ih)

pub length_filter : {A : Type 0} (t : A → Bool) (xs : List A) → length (filter t xs) ≤ length xs
length_filter t [] = omega arith
length_filter t (x ∷ xs) = more (t x) (length_filter t xs) where
  more : (b : Bool) → length (filter t xs) ≤ length xs → length (cond b (x ∷ filter t xs) (filter t xs)) ≤ length (x ∷ xs)
  more true ih = omega arith
  more false ih = omega arith

pub length_granted : (qs : List Request) → length (granted qs) ≤ length qs
length_granted qs = omega (arith, ap length (granted_split qs), length-append (granted qs) (waiting qs))

-- ---- numbers that stand once
own_number : (q : Request) (qs : List Request) → 1 ≤ length (filter (has_id q.id) (q ∷ qs))
own_number q qs = rw (eq-eqb q.id q.id refl) (omega arith)

none_any : (t : Request → Bool) (xs : List Request) → length (filter t xs) ≡ 0 → list_any t xs ≡ false
none_any t [] e = refl
none_any t (x ∷ xs) e = go (t x) e (none_any t xs) where
  go : (b : Bool) → length (cond b (x ∷ filter t xs) (filter t xs)) ≡ 0 → (length (filter t xs) ≡ 0 → list_any t xs ≡ false)
      → (b || list_any t xs) ≡ false
  go true e ih = absurd (omega arith)
  go false e ih = ih e

-- no request behind has the number of one in front
pub apart : (front behind : List Request) → HasDistinctIds (front ++ behind)
    → AllByRecursion (λ q. list_any (has_id q.id) front ≡ false) behind
apart front [] d = tt
apart front (q ∷ qs) d = (
  none_any (has_id q.id) front (omega (arith, d q.id, count_split (has_id q.id) front (q ∷ qs), own_number q qs)),
  apart front qs (λ i. omega (
    arith,
    d i,
    count_split (has_id i) front (q ∷ qs),
    count_split (has_id i) front qs,
    count_tail (has_id i) q qs,
  )),
)

-- where the next one passes, something is left to pass
pub pending : (t : Request → Bool) (xs : List Request) (i : ℕ) (d : Request) → i < length xs → t (get_or xs i d) ≡ true
    → 1 ≤ length (filter t (drop i xs))
pending t xs i d h e = rw (drop_more xs i d h, e) (omega arith)
