-- What holds of each element of a list.
use Rattle.std.proofs.Common.{◌≡◌, ℕ, zero, suc, subst, List, [], ◌∷◌, Some, slice_get}
use Rattle.std.specs.List.{AllByRecursion}

-- what follows from it holds too
pub all_map : {X : Type 0} {P Q : X → Type 0} → ((x : X) → P x → Q x) → (xs : List X) → AllByRecursion P xs → AllByRecursion Q xs
all_map f [] a = tt
all_map f (x ∷ xs) a = (f x a.0, all_map f xs a.1)

-- it holds of the element that is read
pub all_got : {X : Type 0} (P : X → Type 0) (xs : List X) (i : ℕ) (x : X) → slice_get xs i ≡ Some x → AllByRecursion P xs → P x
all_got P [] i x e a = absurd (cc e)
all_got P (y ∷ ys) zero x e a = let same : y ≡ x = cc e in subst P same a.0
all_got P (y ∷ ys) (suc i) x e a = all_got P ys i x e a.1
