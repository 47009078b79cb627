-- Which digits show a number, that it is the one that std writes so, and the value of digits, one by one.
use Rattle.std.proofs.Common.{◌≡◌, ℕ, ◌<◌, ◌≤◌, Bool, true, false, cond, leb, ◌&&◌, List, [], ◌∷◌, length, get_or}
use Rattle.std.proofs.Common.{Some, None, decimal, refl, ap, arith, inl, inr}
use Rattle.std.specs.Int.{IsInRange}
use Rattle.std.specs.List.{list_all}
use Rattle.std.specs.Str.Parse.{AllDigits}
use Rattle.std.proofs.lemmas.Bool.{cases_eq, and_parts, leb-true, le-leb, false≢true}
use Rattle.std.proofs.lemmas.Fmt.{decimal_is_IsNumeral, decimal_digit, first_decimal, digits_value-decimal, decimal-digits_value}
use Rattle.std.proofs.lemmas.Str.Parse.{IsNumeralModel, tells_digits, digit_from_value, numerals_by_fold}
use Rattle.mv_line.specs.Byte.{is_within, is_digit}
use Rattle.mv_line.specs.Number.{is_number, number_of, value_behind, within}
use Rattle.mv_line.proofs.Numbers.{is_digit-true}
use Rattle.mv_operationtext.specs.Ranges.{highest_u64}

-- ---- digits

digit_range : (c : ℕ) → is_digit c ≡ true → IsInRange 48 57 c
digit_range c e =
    let both = and_parts (leb 48 c) (leb c 57) e in
    (leb-true 48 c both.0, leb-true c 57 both.1)

-- the digits of this project and of std
are_std_digits : (ds : List ℕ) → list_all is_digit ds ≡ true → AllDigits 10 ds
are_std_digits [] e = tt
are_std_digits (c ∷ cs) e =
    let both = and_parts (is_digit c) (list_all is_digit cs) e in
    tells_digits.more c cs (digit_range c both.0) (are_std_digits cs both.1)

are_digits : (ds : List ℕ) → AllDigits 10 ds → list_all is_digit ds ≡ true
are_digits [] h = refl
are_digits (c ∷ cs) h = rw (is_digit-true c (digit_from_value c h.0), are_digits cs h.1) refl

-- digits show the number that std reads off them
pub std_value : IsNumeralModel (AllDigits 10) (value_behind 0)
std_value = numerals_by_fold (AllDigits 10) tells_digits value_behind (record {
  empty = λ n. refl;
  more = λ n c cs k. ap (λ (m : ℕ). value_behind m cs) (omega arith);
})

-- ---- which digits show a number

-- one or more digits, a zero alone if in front: so std writes a number
pub record IsSpelled (ds : List ℕ) : Type 0 where
  pub digits : AllDigits 10 ds
  pub some : 0 < length ds
  pub lead : get_or ds 0 0 ≡ 48 → length ds ≡ 1

pub shows : (ds : List ℕ) → IsSpelled ds → is_number ds ≡ true
shows [] h = absurd (omega (arith, h.some))
shows (c ∷ []) h = is_digit-true c (digit_from_value c h.digits.0)
shows (c ∷ d ∷ ds) h =
    let k = digit_from_value c h.digits.0 in
    let no : c ≡ 48 → ⊥ = λ e. omega (arith, h.lead e) in
    rw (le-leb 49 c (omega (arith, k.0, no)), le-leb c 57 k.1, are_digits (d ∷ ds) h.digits.1) refl

pub is_spelled : (ds : List ℕ) → is_number ds ≡ true → IsSpelled ds
is_spelled [] e = absurd (false≢true e)
is_spelled (c ∷ []) e = record { digits = are_std_digits (c ∷ []) (rw e refl); some = omega arith; lead = λ z. refl }
is_spelled (c ∷ d ∷ ds) e =
    let both = and_parts (is_within 49 57 c) (list_all is_digit (d ∷ ds)) e in
    let ends = and_parts (leb 49 c) (leb c 57) both.0 in
    let low : 49 ≤ c = leb-true 49 c ends.0 in
    record {
      digits = tells_digits.more c (d ∷ ds) (omega arith, leb-true c 57 ends.1) (are_std_digits (d ∷ ds) both.1);
      some = omega arith;
      lead = λ z. absurd (omega (arith, low, z));
    }

-- ---- what is written shows its number, and nothing else shows it

decimal_spelled : (n : ℕ) → n ≤ highest_u64 → IsSpelled (decimal n)
decimal_spelled n le =
    let h = decimal_is_IsNumeral n (omega arith) in
    record {
      digits = h.0.1;
      some = h.0.0;
      lead = λ z. elim (cases_eq n 0) [
        | inl e ↦ rw (e, decimal_digit 0 (omega arith)) refl
        | inr ne ↦ absurd (omega (arith, z, first_decimal n (omega arith) (omega arith)))
      ];
    }

pub shown_again : (low high n : ℕ) → low ≤ n → n ≤ high → n ≤ highest_u64 → within low high (number_of (decimal n)) ≡ Some n
shown_again low high n lo hi le =
    rw (shows (decimal n) (decimal_spelled n le), digits_value-decimal std_value n (omega arith), le-leb low n lo, le-leb n high hi) refl

within_is : (low high v n : ℕ) (t : Bool) → (leb low v && leb v high) ≡ t → cond t (Some v) None ≡ Some n → (v ≡ n) × (low ≤ v) × (v ≤ high)
within_is low high v n true e h =
    let both = and_parts (leb low v) (leb v high) e in
    (cc, leb-true low v both.0, leb-true v high both.1)
within_is low high v n false e h = absurd cc

pub shown_is : (low high n : ℕ) (ds : List ℕ) → high ≤ highest_u64 → within low high (number_of ds) ≡ Some n
    → (decimal n ≡ ds) × (low ≤ n) × (n ≤ high)
shown_is low high n ds wide e = go (is_number ds) refl e where
  go : (b : Bool) → is_number ds ≡ b → within low high (cond b (Some (value_behind 0 ds)) None) ≡ Some n
      → (decimal n ≡ ds) × (low ≤ n) × (n ≤ high)
  go false i h = absurd cc
  go true i h =
      let v = value_behind 0 ds in
      let w = within_is low high v n (leb low v && leb v high) refl h in
      let s = is_spelled ds i in
      let is : decimal v ≡ ds = decimal-digits_value std_value ds s.digits s.some s.lead (omega (arith, w.2)) in
      (rw w.0 at is, omega (arith, w.0, w.1), omega (arith, w.0, w.2))
