-- Lists that a loop takes apart or makes, one element at a time. Used by `seated` and `parted`.
use Rattle.std.proofs.Common.{◌≡◌, ℕ, List, [], ◌∷◌, ◌++◌, length, map, sym, ap, ◌∙◌, arith, append_assoc}
use Rattle.std.proofs.lemmas.List.{append-nil, length-append, map-append}

-- a list has been yielded whole if no element of it is left
pub yielded_whole : {A : Type 0} (yielded left all : List A) (n : ℕ) → yielded ++ left ≡ all → n ≡ length left → n ≡ 0 → yielded ≡ all
yielded_whole yielded [] all n is count none = sym (append-nil yielded) ∙ is
yielded_whole yielded (x ∷ left) all n is count none = absurd (omega arith)

-- a list has been yielded whole if it is as long as what was yielded
pub as_long_whole : {A : Type 0} (yielded left all : List A) → yielded ++ left ≡ all → length yielded ≡ length all → yielded ≡ all
as_long_whole yielded [] all is same = sym (append-nil yielded) ∙ is
as_long_whole yielded (x ∷ left) all is same =
    let long = ap length is in
    let more = length-append yielded (x ∷ left) in absurd (omega arith)

-- ---- one more element x, and the list of what f makes of each element

-- the list of what f makes has one more element
pub made_more : {A B : Type 0} (f : A → B) (xs : List A) (x : A) (old new : List B) → new ≡ old ++ f x ∷ [] → old ≡ map f xs
    → new ≡ map f (xs ++ x ∷ [])
made_more f xs x old new is so = is ∙ ap (λ ys. ys ++ f x ∷ []) so ∙ sym (map-append f xs (x ∷ []))

-- the list that f is applied to has one more element
pub made_of_more : {A B : Type 0} (f : A → B) (xs new : List A) (x : A) (done : List B) → new ≡ xs ++ x ∷ [] → map f xs ≡ done
    → map f new ≡ done ++ f x ∷ []
made_of_more f xs new x done is so = ap (map f) is ∙ map-append f xs (x ∷ []) ∙ ap (λ ys. ys ++ f x ∷ []) so

-- the list that f is applied to has one more element, for which f makes the first of what was left
pub made_of_taken : {A B : Type 0} (f : A → B) (xs new : List A) (x : A) (left rest all : List B) → new ≡ xs ++ x ∷ []
    → left ≡ f x ∷ rest → map f xs ++ left ≡ all → map f new ++ rest ≡ all
made_of_taken f xs new x left rest all is gone so =
    ap (λ ys. map f ys ++ rest) is ∙ ap (λ ys. ys ++ rest) (map-append f xs (x ∷ [])) ∙ append_assoc (map f xs) (f x ∷ []) rest
    ∙ ap (λ ys. map f xs ++ ys) (sym gone) ∙ so
