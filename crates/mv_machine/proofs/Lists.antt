-- What holds of each element of a list, and of lists that are made of it.
use Rattle.std.proofs.Common.{inl, inr, subst, List, [], ◌∷◌, ◌++◌}
use Rattle.std.specs.List.{AllByRecursion, Contains}
use Rattle.mv_latch.proofs.Members.{not_in_empty, first_or_rest}
-- what follows from it, and of the one that is read
pub use Rattle.mv_config.proofs.Elements.{all_map, all_got}
-- of what a filter leaves
pub use Rattle.mv_latch.proofs.Splits.{all_filter}

-- of two lists
pub all_append : {X : Type 0} (P : X → Type 0) (xs ys : List X) → AllByRecursion P xs → AllByRecursion P ys
    → AllByRecursion P (xs ++ ys)
all_append P [] ys a b = b
all_append P (x ∷ xs) ys a b = (a.0, all_append P xs ys a.1 b)

-- of a list with one more
pub all_push : {X : Type 0} (P : X → Type 0) (xs : List X) (x : X) → AllByRecursion P xs → P x → AllByRecursion P (xs ++ x ∷ [])
all_push P xs x a p = all_append P xs (x ∷ []) a (p, tt)

-- of a front
pub all_front : {X : Type 0} (P : X → Type 0) (xs ys : List X) → AllByRecursion P (xs ++ ys) → AllByRecursion P xs
all_front P [] ys a = tt
all_front P (x ∷ xs) ys a = (a.0, all_front P xs ys a.1)

-- of what is behind a front
pub all_back : {X : Type 0} (P : X → Type 0) (xs ys : List X) → AllByRecursion P (xs ++ ys) → AllByRecursion P ys
all_back P [] ys a = a
all_back P (x ∷ xs) ys a = all_back P xs ys a.1

-- of an element
pub all_at : {X : Type 0} (P : X → Type 0) (xs : List X) (x : X) → AllByRecursion P xs → Contains xs x → P x
all_at P [] x a i = absurd (not_in_empty x i)
all_at P (y ∷ ys) x a i = elim (first_or_rest y ys x i) [ inl e ↦ subst P e a.0 | inr j ↦ all_at P ys x a.1 j ]
