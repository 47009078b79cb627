-- The numbers of fields, field by field.
use Rattle.std.proofs.Common.{◌≡◌, ℕ, Bool, List, [], ◌∷◌, ◌++◌, Option, Some, None, refl, sym, ap, ◌∙◌, append_assoc}
use Rattle.std.proofs.lemmas.List.{append-nil}
use Rattle.std.specs.Option.{option_map}
use Rattle.mv_operationtext.specs.Reading.{whole, any_u32}
use Rattle.mv_entrytext.specs.Lines.{numbers}

-- what was read before, and what is still read
abbrev pub with_front : List ℕ → Option (List ℕ) → Option (List ℕ)
with_front front read = option_map (λ (ms : List ℕ). front ++ ms) read

regrouped : (front : List ℕ) (n : ℕ) (o : Option (List ℕ)) → with_front front (option_map (λ ms. n ∷ ms) o) ≡ with_front (front ++ n ∷ []) o
regrouped front n None = refl
regrouped front n (Some ms) = ap (λ (x : List ℕ). Some x) (sym (append_assoc front (n ∷ []) ms))

pub one_more_number : (strict : Bool) (front field : List ℕ) (n : ℕ) (fields all : List (List ℕ)) (total : Option (List ℕ))
    → all ≡ field ∷ fields → whole (any_u32 strict) field ≡ Some n → with_front front (numbers strict all) ≡ total
    → with_front (front ++ n ∷ []) (numbers strict fields) ≡ total
unfolding numbers
one_more_number strict front field n fields all total shape e so_far =
    sym (regrouped front n (numbers strict fields)) ∙ sym (rw (shape, e) refl) ∙ so_far

pub bad_number : (strict : Bool) (front field : List ℕ) (fields all : List (List ℕ)) (total : Option (List ℕ)) → all ≡ field ∷ fields
    → whole (any_u32 strict) field ≡ None → with_front front (numbers strict all) ≡ total → None ≡ total
unfolding numbers
bad_number strict front field fields all total shape e so_far = sym (rw (shape, e) refl) ∙ so_far

pub no_more_numbers : (strict : Bool) (front : List ℕ) (total : Option (List ℕ)) → with_front front (numbers strict []) ≡ total
    → Some front ≡ total
unfolding numbers
no_more_numbers strict front total so_far = ap (λ (x : List ℕ). Some x) (sym (append-nil front)) ∙ so_far
