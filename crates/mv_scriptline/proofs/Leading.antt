-- Words one behind the other.
use Rattle.std.proofs.Common.{◌≡◌, ℕ, List, [], ◌∷◌, Ok, Err, refl, sym}
use Rattle.mv_line.specs.Field.{starts_fields}
use Rattle.mv_scriptline.specs.declared.words.Misread.TheVariants.{NoForm}
use Rattle.mv_scriptline.specs.Words.{Read, both, led_by}

-- what fits no form makes all of it fit none
first_fits_none : {A B : Type 0} (s : Read B) → both {A = A} (Err NoForm) s ≡ Err NoForm
first_fits_none (Ok b) = refl
first_fits_none (Err why) = refl

-- a word, which may be missing where no word is none of its kind
pub led : {A B : Type 0} (f : List ℕ → Read A) (g : List (List ℕ) → Read B) (word : List ℕ) (words : List (List ℕ))
    → f [] ≡ Err NoForm → led_by f g (starts_fields word words) ≡ both (f word) (g words)
led {A} {B} f g [] words none = rw none (sym (first_fits_none {A = A} (g words)))
led f g (b ∷ bs) words none = refl
