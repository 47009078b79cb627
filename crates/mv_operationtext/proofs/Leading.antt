-- The digits that a text begins with, and what they show, in one pass.
use Rattle.std.proofs.Common.{◌≡◌, ℕ, suc, ◌+◌, ◌-◌, ◌*◌, ◌^◌, ◌<◌, ◌≤◌, ◌==◌, true, not, List, [], ◌∷◌, ◌++◌, length, take}
use Rattle.std.proofs.Common.{get_or, refl, ap, ◌∙◌, arith, inl, inr}
use Rattle.std.specs.List.{list_all}
use Rattle.std.proofs.Math.Nat.{pow-le-pow_right}
use Rattle.std.proofs.lemmas.Bool.{cases_Bool, and_parts}
use Rattle.std.proofs.lemmas.List.{take_more, get_or-take}
use Rattle.std.proofs.lemmas.List.Folds.{length-prefix_len}
use Rattle.mv_line.specs.Byte.{is_digit}
use Rattle.mv_line.specs.Number.{is_number, value_behind}
use Rattle.mv_operationtext.specs.Reading.{digit_count}

-- ---- what they show

value_more : (shown : ℕ) (ds : List ℕ) (d : ℕ) → value_behind shown (ds ++ d ∷ []) ≡ 10 * value_behind shown ds + (d - 48)
value_more shown [] d = refl
value_more shown (e ∷ ds) d = value_more (10 * shown + (e - 48)) ds d

-- one digit more
pub value_there : (text : List ℕ) (i : ℕ) → i < length text
    → value_behind 0 (take (i + 1) text) ≡ 10 * value_behind 0 (take i text) + (get_or text i 0 - 48)
value_there text i lt =
    ap (λ (ds : List ℕ). value_behind 0 ds) (take_more text i 0 lt) ∙ value_more 0 (take i text) (get_or text i 0)

-- up to so many
pub few_digits : (count : ℕ) → count ≤ 17 → 10 ^ count ≤ 10 ^ 17
few_digits count few = pow-le-pow_right {n = 10} (omega arith) {i = count} {j = 17} few

-- ---- whether they show a number

front_digits : (text : List ℕ) → list_all is_digit (take (digit_count text) text) ≡ true
front_digits [] = refl
front_digits (d ∷ text) = elim (cases_Bool (is_digit d)) [
  | inl digit ↦
      let one : digit_count (d ∷ text) ≡ suc (digit_count text) = rw digit (omega arith) in
      ap (λ (n : ℕ). list_all is_digit (take n (d ∷ text))) one ∙ rw (digit, front_digits text) refl
  | inr other ↦
      let none : digit_count (d ∷ text) ≡ 0 = rw other refl in ap (λ (n : ℕ). list_all is_digit (take n (d ∷ text))) none
]

more_show : (ds : List ℕ) → list_all is_digit ds ≡ true → 1 < length ds → is_number ds ≡ not (get_or ds 0 0 == 48)
more_show [] all more = absurd (omega arith)
more_show (d ∷ []) all more = absurd (omega arith)
more_show (d ∷ e ∷ ds) all more =
    let both = and_parts (is_digit d) (list_all is_digit (e ∷ ds)) all in
    let digit : is_digit d ≡ true = both.0 in
    let rest : list_all is_digit (e ∷ ds) ≡ true = both.1 in
    rw rest (grind arith)

-- more than one digit do where the first is no zero
pub digits_show : (text : List ℕ) (count : ℕ) → count ≡ digit_count text → 1 < count
    → is_number (take count text) ≡ not (get_or text 0 0 == 48)
digits_show text count is more =
    let long : length (take (digit_count text) text) ≡ digit_count text = length-prefix_len is_digit text in
    ap (λ (n : ℕ). is_number (take n text)) is
    ∙ more_show (take (digit_count text) text) (front_digits text) (omega (arith, long, is, more))
    ∙ ap (λ (d : ℕ). not (d == 48)) (get_or-take (digit_count text) text 0 0 (omega (arith, is, more)))
