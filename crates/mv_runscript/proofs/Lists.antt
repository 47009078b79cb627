-- Facts on lists.
use Rattle.std.proofs.Common.{◌≡◌, ℕ, zero, suc, ◌+◌, ◌<◌, List, [], ◌∷◌, ◌++◌, length, get_or, map, take}
use Rattle.std.proofs.Common.{refl, sym, ap, ◌∙◌, subst, arith, below_more, length-append}
use Rattle.std.specs.Prelude.{slice_get}
use Rattle.std.proofs.Math.Seq.{get_or-append_seam}
use Rattle.std.proofs.lemmas.List.{get_or_append_left}
use Rattle.std.specs.List.{AllByRecursion, range_with_len}
use Rattle.mv_machine.proofs.Lists.{all_front, all_back}

-- what holds of each of a list holds of one between others
pub all_between : {A : Type 0} (P : A → Type 0) (xs : List A) (x : A) (ys : List A) → AllByRecursion P ((xs ++ x ∷ []) ++ ys) → P x
all_between P xs x ys all = (all_back P xs (x ∷ []) (all_front P (xs ++ x ∷ []) ys all)).0

-- an element does not depend on what was taken behind it
pub get_of_take : {A : Type 0} (xs : List A) (n k : ℕ) → k < length (take n xs) → slice_get (take n xs) k ≡ slice_get xs k
get_of_take xs zero k lt = absurd (omega arith)
get_of_take [] (suc n) k lt = refl
get_of_take (x ∷ xs) (suc n) zero lt = refl
get_of_take (x ∷ xs) (suc n) (suc k) lt = get_of_take xs n k (omega arith)

-- a list whose elements are those of a function
pub is_mapped : {A : Type 0} (f : ℕ → A) (xs : List A) (a : ℕ) → ((k : ℕ) (d : A) → k < length xs → get_or xs k d ≡ f (a + k))
    → xs ≡ map f (range_with_len a (length xs))
is_mapped f [] a each = refl
is_mapped f (x ∷ xs) a each =
    ap (λ y. y ∷ xs) (each zero x (omega arith) ∙ ap f (let e : a + 0 ≡ a = omega arith in e))
    ∙ ap (λ ys. f a ∷ ys) (is_mapped f xs (a + 1) (λ k d lt.
    each (suc k) d (omega arith) ∙ ap f (let e : a + suc k ≡ a + 1 + k = omega arith in e)))

-- what holds of each two in one place, and of one more, holds of each
pub each_more : {A B : Type 0} (P : A → B → Type 0) (xs : List A) (a : A) (ys : List B) (y : B)
    → ((k : ℕ) (d : B) → k < length ys → P (get_or xs k a) (get_or ys k d)) → P (get_or xs (length ys) a) y
    → (k : ℕ) (d : B) → k < length (ys ++ y ∷ []) → P (get_or xs k a) (get_or (ys ++ y ∷ []) k d)
each_more P xs a ys y each one k d lt =
    let n = length-append ys (y ∷ []) in
    below_more (λ j. P (get_or xs j a) (get_or (ys ++ y ∷ []) j d)) (length ys)
    (λ j low. subst (P (get_or xs j a)) (sym (get_or_append_left ys (y ∷ []) d j low)) (each j d low))
    (subst (P (get_or xs (length ys) a)) (sym (get_or-append_seam ys y [] d)) one) k (omega arith)
