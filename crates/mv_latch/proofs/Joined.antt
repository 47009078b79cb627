-- Lists set one after the other: when nothing is in them, and what a test finds with one more at the end.
use Rattle.std.proofs.Common.{◌≡◌, Bool, true, false, List, [], ◌∷◌, ◌++◌, refl, ◌∙◌}
use Rattle.std.specs.List.{list_any}
use Rattle.std.proofs.Math.Bool.{or-false, or-true}
use Rattle.std.proofs.lemmas.List.Folds.{list_any-append}

-- where there is nothing in two together, there is nothing in either
pub both_empty : {A : Type 0} (xs ys : List A) → xs ++ ys ≡ [] → (xs ≡ []) × (ys ≡ [])
both_empty [] ys e = (refl, e)
both_empty (x ∷ xs) ys e = absurd (cc e)

-- one more that does not pass a test changes nothing
pub same_any : {A : Type 0} (test : A → Bool) (xs : List A) (x : A) → test x ≡ false → list_any test (xs ++ x ∷ []) ≡ list_any test xs
same_any test xs x e = list_any-append test xs (x ∷ []) ∙ rw e (or-false (list_any test xs))

-- one that passes it makes it true
pub some_any : {A : Type 0} (test : A → Bool) (xs : List A) (x : A) → test x ≡ true → list_any test (xs ++ x ∷ []) ≡ true
some_any test xs x e = list_any-append test xs (x ∷ []) ∙ rw e (or-true (list_any test xs))
