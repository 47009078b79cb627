-- What a list contains, by its first element and the rest; of what a filter leaves; and what a test finds in it.
use Rattle.std.proofs.Common.{◌≡◌, ◌⊎◌, ◌<◌, ℕ, zero, suc, Bool, true, false, ◌||◌, List, [], ◌∷◌, length, filter, get_or, inl, inr, refl}
use Rattle.std.proofs.Common.{ap, ◌∙◌, arith}
use Rattle.std.specs.List.{Contains, list_any}
use Rattle.std.proofs.lemmas.Bool.{false≢true, or_left, or_right}
use Rattle.std.proofs.lemmas.List.Elements.{All-contains, All-contains_itself, All-filter, filter_passes}

-- nothing is in the empty list
pub not_in_empty : {A : Type 0} (y : A) → Contains [] y → ⊥
not_in_empty y i = let lt = i.1 in omega arith

-- what is in a list is its first element, or is in the rest
pub first_or_rest : {A : Type 0} (x : A) (xs : List A) (y : A) → Contains (x ∷ xs) y → (x ≡ y) ⊎ Contains xs y
first_or_rest {A} x xs y i = go i.0 i.1 i.2 where
  go : (k : ℕ) → k < length (x ∷ xs) → get_or (x ∷ xs) k y ≡ y → (x ≡ y) ⊎ Contains xs y
  go zero lt e = inl e
  go (suc k) lt e = inr (k, omega arith, e)

-- the first element is in the list
pub first_is_in : {A : Type 0} (x : A) (xs : List A) (y : A) → x ≡ y → Contains (x ∷ xs) y
first_is_in x xs y e = (0, omega arith, e)

-- what is in the rest is in the list
pub rest_is_in : {A : Type 0} (x : A) (xs : List A) (y : A) → Contains xs y → Contains (x ∷ xs) y
rest_is_in x xs y i = let lt = i.1 in (suc i.0, omega arith, i.2)

-- the same first element stands in front of a list that has what the other has
pub with_first : {A : Type 0} (x : A) (xs ys : List A) (y : A) → (Contains xs y → Contains ys y) → Contains (x ∷ xs) y → Contains (x ∷ ys) y
with_first x xs ys y f i = elim (first_or_rest x xs y i) [ inl e ↦ first_is_in x ys y e | inr j ↦ rest_is_in x ys y (f j) ]

-- what a filter left meets its test
pub passes : {A : Type 0} (p : A → Bool) (y : A) (xs : List A) → Contains (filter p xs) y → p y ≡ true
passes p y xs i = All-contains (λ x. p x ≡ true) (filter p xs) y (filter_passes p xs) i

-- and was in the list
pub was_in : {A : Type 0} (p : A → Bool) (y : A) (xs : List A) → Contains (filter p xs) y → Contains xs y
was_in p y xs i = All-contains (Contains xs) (filter p xs) y (All-filter p (Contains xs) xs (All-contains_itself xs)) i

-- what a test finds
abbrev pub Found : {A : Type 0} → (A → Bool) → List A → Type 0
Found {A} t xs = (x : A) × Contains xs x × (t x ≡ true)

-- where a test holds of any, there is one of which it holds
pub found : {A : Type 0} (t : A → Bool) (xs : List A) → list_any t xs ≡ true → Found t xs
found t [] e = absurd (false≢true e)
found t (x ∷ xs) e = go (t x) refl e (found t xs) where
  go : (b : Bool) → t x ≡ b → (b || list_any t xs) ≡ true → (list_any t xs ≡ true → Found t xs) → Found t (x ∷ xs)
  go true is f rest = (x, first_is_in x xs x refl, is)
  go false is f rest = let w : Found t xs = rest f in (w.0, rest_is_in x xs w.0 w.1, w.2)

-- and where it holds of one, it holds of any
pub finds : {A : Type 0} (t : A → Bool) (y : A) (xs : List A) → Contains xs y → t y ≡ true → list_any t xs ≡ true
finds t y [] i is = absurd (not_in_empty y i)
finds t y (x ∷ xs) i is = elim (first_or_rest x xs y i) [
  | inl e ↦ or_left (t x) (list_any t xs) (ap t e ∙ is)
  | inr j ↦ or_right (t x) (list_any t xs) (finds t y xs j is)
]
