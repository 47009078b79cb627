-- One call of a list.
use Rattle.std.proofs.Common.{◌≡◌, ℕ, zero, suc, ◌<◌, ◌≤◌, List, [], ◌∷◌, length, get_or, Some, refl, sym, ap, ◌∙◌, arith}
use Rattle.std.specs.Prelude.{slice_get}
use Rattle.std.proofs.lemmas.Option.{slice_get-get_or}

-- an element of a list is below its end, and is the one that is read there
pub at_place : {A : Type 0} (xs : List A) (i : ℕ) (x d : A) → slice_get xs i ≡ Some x → (i < length xs) × (x ≡ get_or xs i d)
at_place [] i x d is = absurd (cc is)
at_place (y ∷ ys) zero x d is = (omega arith, (let e : y ≡ x = cc is in sym e))
at_place (y ∷ ys) (suc i) x d is = let r = at_place ys i x d is in let lt = r.0 in (omega arith, r.1)

-- below an end that it has not reached
below : (n m : ℕ) → n ≤ m → (n ≡ m → ⊥) → n < m
below zero zero le other = absurd (other refl)
below zero (suc m) le other = omega arith
below (suc n) zero le other = absurd (omega arith)
below (suc n) (suc m) le other = let r = below n m (omega arith) (λ same. other (ap (λ k. suc k) same)) in omega arith

-- the element at an index below the end: n elements are before it, which were counted twice
pub next_is : {A : Type 0} (xs : List A) (n i j : ℕ) (x : A) → n ≤ length xs → i ≡ n → j ≡ n → (i ≡ length xs → ⊥) → x ≡ get_or xs j x
    → slice_get xs n ≡ Some x
next_is xs n i j x few first second other is =
    slice_get-get_or xs n x (below n (length xs) few (λ same. other (first ∙ same)))
    ∙ ap (λ m. Some (get_or xs m x)) (sym second) ∙ ap (λ y. Some y) (sym is)
