-- Lists whose elements stand in another list in the same order; and items slot by slot.
use Rattle.std.proofs.Common.{◌≡◌, ℕ, suc, ◌+◌, ◌%◌, ◌<◌, ◌≤◌, ◌==◌, Bool, true, false, List, [], ◌∷◌, ◌++◌, length, ◌⊎◌, inl, inr}
use Rattle.std.proofs.Common.{refl, sym, ap, ◌∙◌, arith, append_assoc, if◌then◌else◌}
use Rattle.std.proofs.lemmas.Bool.{eq-eqb}
use Rattle.mv_handover.specs.Setup.{slots}
use Rattle.mv_handover.specs.Slots.{part_from}

-- the first list is the second one with some left out
abbrev pub IsWithin : List ℕ → List ℕ → Type 0
IsWithin [] ys = Unit {0}
IsWithin (x ∷ xs) [] = ⊥
IsWithin (x ∷ xs) (y ∷ ys) = ((x ≡ y) × IsWithin xs ys) ⊎ IsWithin (x ∷ xs) ys

pub within_add : (xs ys : List ℕ) (y : ℕ) → IsWithin xs ys → IsWithin xs (y ∷ ys)
within_add [] ys y w = tt
within_add (x ∷ xs) ys y w = inr w

pub within_second : (xs ys : List ℕ) (y z : ℕ) → IsWithin xs (y ∷ ys) → IsWithin xs (y ∷ z ∷ ys)
within_second [] ys y z w = tt
within_second (x ∷ xs) ys y z (inl w) = inl (w.0, within_add xs ys z w.1)
within_second (x ∷ xs) ys y z (inr w) = inr (within_add (x ∷ xs) ys z w)

pub within_length : (xs ys : List ℕ) → IsWithin xs ys → length xs ≤ length ys
within_length [] ys w = omega arith
within_length (x ∷ xs) [] w = absurd w
within_length (x ∷ xs) (y ∷ ys) (inl w) = let n = within_length xs ys w.1 in omega arith
within_length (x ∷ xs) (y ∷ ys) (inr w) = let n = within_length (x ∷ xs) ys w in omega arith

-- where nothing is left out they are one
pub within_same : (xs ys : List ℕ) → IsWithin xs ys → length ys ≤ length xs → xs ≡ ys
within_same [] [] w few = refl
within_same [] (y ∷ ys) w few = absurd (omega arith)
within_same (x ∷ xs) [] w few = absurd w
within_same (x ∷ xs) (y ∷ ys) (inl w) few = (λ i. w.0 i ∷ within_same xs ys w.1 (omega arith) i)
within_same (x ∷ xs) (y ∷ ys) (inr w) few = absurd (let n = within_length (x ∷ xs) ys w in omega arith)

-- ---- items slot by slot

pub part_from-append : (s i : ℕ) (xs ys : List ℕ) → part_from s i (xs ++ ys) ≡ part_from s i xs ++ part_from s (i + length xs) ys
part_from-append s i [] ys = ap (λ k. part_from s k ys) (let e : i ≡ i + 0 = omega arith in e)
part_from-append s i (x ∷ xs) ys =
    ap (λ ps. (if i % slots == s then x ∷ [] else []) ++ ps) (part_from-append s (i + 1) xs ys)
    ∙ sym (append_assoc (if i % slots == s then x ∷ [] else []) (part_from s (i + 1) xs) (part_from s (i + 1 + length xs) ys))
    ∙ ap (λ k. (if i % slots == s then x ∷ [] else []) ++ part_from s (i + 1) xs ++ part_from s k ys)
    (let e : i + 1 + length xs ≡ i + suc (length xs) = omega arith in e)

tail_of : (b : Bool) (x y : ℕ) (ps qs : List ℕ) → (if b then x ∷ [] else []) ++ ps ≡ (if b then y ∷ [] else []) ++ qs → ps ≡ qs
tail_of true x y ps qs e = cc e
tail_of false x y ps qs e = e

head_of : (b : Bool) (x y : ℕ) (ps qs : List ℕ) → b ≡ true → (if b then x ∷ [] else []) ++ ps ≡ (if b then y ∷ [] else []) ++ qs → x ≡ y
head_of true x y ps qs is e = cc e
head_of false x y ps qs is e = absurd (cc is)

-- who has the same items in each slot has the same items
pub same_parts : (i : ℕ) (xs ys : List ℕ) → length xs ≡ length ys
    → ((s : ℕ) → s < slots → part_from s i xs ≡ part_from s i ys) → xs ≡ ys
same_parts i [] [] same parts = refl
same_parts i [] (y ∷ ys) same parts = absurd (cc same)
same_parts i (x ∷ xs) [] same parts = absurd (cc same)
same_parts i (x ∷ xs) (y ∷ ys) same parts =
    let head = head_of (i % slots == i % slots) x y (part_from (i % slots) (i + 1) xs) (part_from (i % slots) (i + 1) ys)
    (eq-eqb (i % slots) (i % slots) refl) (parts (i % slots) (omega arith)) in
    let tails = same_parts (i + 1) xs ys (omega arith)
    (λ s lt. tail_of (i % slots == s) x y (part_from s (i + 1) xs) (part_from s (i + 1) ys) (parts s lt)) in
    (λ j. head j ∷ tails j)

-- as many items go to a slot
pub parts_length : (s i : ℕ) (xs ys : List ℕ) → length xs ≡ length ys → length (part_from s i xs) ≡ length (part_from s i ys)
parts_length s i [] [] same = refl
parts_length s i [] (y ∷ ys) same = absurd (cc same)
parts_length s i (x ∷ xs) [] same = absurd (cc same)
parts_length s i (x ∷ xs) (y ∷ ys) same = by_case (i % slots == s) (parts_length s (i + 1) xs ys (omega arith)) where
  by_case : (b : Bool) → length (part_from s (i + 1) xs) ≡ length (part_from s (i + 1) ys)
      → length ((if b then x ∷ [] else []) ++ part_from s (i + 1) xs) ≡ length ((if b then y ∷ [] else []) ++ part_from s (i + 1) ys)
  by_case true e = ap suc e
  by_case false e = e
