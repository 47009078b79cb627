-- Parts of AFTER lists, with and without where they lie in memory.
use Rattle.std.proofs.Common.{◌≡◌, ℕ, zero, suc, ◌+◌, ◌<◌, Bool, ◌||◌, List, [], ◌∷◌, length, map, drop, refl, ap, ◌∙◌, arith}
use Rattle.std.proofs.Common.{bytes_eq}
use Rattle.std.specs.List.{list_any}
use Rattle.mv_deck.specs.declared.form.Part.{Part}
use Rattle.mv_deck.specs.Fault.{has_double, repeats_first}
use Rattle.mv_deck.specs.Form.{part_data}
use Rattle.mv_deck.specs.Statement.{AfterPart}

-- a test on what a function makes of a list
pub any-map : {A B : Type 0} (p : B → Bool) (f : A → B) (xs : List A) → list_any p (map f xs) ≡ list_any (λ x. p (f x)) xs
any-map p f [] = refl
any-map p f (x ∷ xs) = ap (λ (b : Bool). p (f x) || b) (any-map p f xs)

-- the first name again, as it is read
pub repeats_of : (parts behind : List Part) (first : Part) → parts ≡ first ∷ behind
    → repeats_first (map part_data parts) ≡ list_any (λ (p : Part). bytes_eq p.name.now first.name.now) behind
repeats_of parts behind first e = ap (λ (x : List Part). repeats_first (map part_data x)) e
    ∙ any-map (λ (q : AfterPart). bytes_eq q.name first.name.now) part_data behind

-- the parts from a place on
pub double_from : (place : ℕ) (parts : List Part) → place < length parts
    → has_double (map part_data (drop place parts)) ≡
    (repeats_first (map part_data (drop place parts)) || has_double (map part_data (drop (place + 1) parts)))
double_from place [] lt = absurd (omega arith)
double_from zero (p ∷ parts) lt = refl
double_from (suc place) (p ∷ parts) lt =
    double_from place parts (omega arith)
    ∙ ap (λ (n : ℕ). repeats_first (map part_data (drop place parts)) || has_double (map part_data (drop n (p ∷ parts)))) (same place)
  where
    same : (k : ℕ) → suc (k + 1) ≡ suc k + 1
    same k = omega arith
