-- A number that is written is read again, and what is read strictly is written so.
use Rattle.std.proofs.Common.{◌≡◌, ℕ, ◌≤◌, true, false, eqb, List, [], ◌∷◌, ◌++◌, length, Some, decimal, refl, arith, append_assoc}
use Rattle.std.specs.Str.Parse.{AllDigits, IsNumeral, digits_value}
use Rattle.std.proofs.lemmas.Bool.{eq-eqb, ne_eqb}
use Rattle.std.proofs.lemmas.Fmt.{decimal_is_IsNumeral}
use Rattle.std.proofs.lemmas.Str.Parse.{digit_from_value}
use Rattle.std.proofs.lemmas.List.{take_at, drop_at}
use Rattle.std.proofs.lemmas.List.Folds.{prefix_len-append}
use Rattle.mv_line.specs.Byte.{is_digit}
use Rattle.mv_operationtext.specs.Ranges.{highest_u32, highest_u64}
use Rattle.mv_operationtext.specs.Words.{◌<+>◌}
use Rattle.mv_operationtext.specs.Reading.{behind, digit_count, number, any_u32, any_u64, Reader, parted_at, parted_by}
use Rattle.mv_line.proofs.Numbers.{is_digit-true}
use Rattle.mv_operationtext.proofs.Digits.{shown_again}
use Rattle.mv_operationtext.proofs.Front.{word_again}
use Rattle.std.specs.Prelude.{codes}

-- no number goes on here
abbrev pub Ends : List ℕ → Type 0
Ends rest = digit_count rest ≡ 0

-- ---- digits

digits_are_counted : (ds : List ℕ) → AllDigits 10 ds → digit_count ds ≡ length ds
digits_are_counted [] h = refl
digits_are_counted (c ∷ cs) h = rw (is_digit-true c (digit_from_value c h.0), digits_are_counted cs h.1) (omega arith)

pub numeral_of : (n : ℕ) → n ≤ highest_u64 → IsNumeral 10 (decimal n) × (digits_value 10 (decimal n) ≡ n)
numeral_of n le = decimal_is_IsNumeral n (omega arith)

count_of_decimal : (n : ℕ) → n ≤ highest_u64 → digit_count (decimal n) ≡ length (decimal n)
count_of_decimal n le = digits_are_counted (decimal n) (numeral_of n le).0.1

count_again : (n : ℕ) (rest : List ℕ) → n ≤ highest_u64 → Ends rest → digit_count (decimal n ++ rest) ≡ length (decimal n)
count_again n rest le e =
    rw (prefix_len-append is_digit (decimal n) rest, count_of_decimal n le, eq-eqb (length (decimal n)) (length (decimal n)) refl, e)
    (omega arith)

-- what is written is read again, where no digit follows
pub number_again : (low high n : ℕ) (rest : List ℕ) → low ≤ n → n ≤ high → high ≤ highest_u64 → Ends rest
    → number true low high (decimal n ++ rest) ≡ Some (n, rest)
unfolding number
number_again low high n rest lo hi wide e =
    let le : n ≤ highest_u64 = omega arith in
    let some : eqb (length (decimal n)) 0 ≡ false = ne_eqb (length (decimal n)) 0 (λ q. omega (arith, (numeral_of n le).0.0)) in
    rw (
      count_again n rest le e,
      take_at (decimal n) rest (length (decimal n)) refl,
      drop_at (decimal n) rest (length (decimal n)) refl,
      some,
      shown_again low high n lo hi le,
    ) refl

-- a number of four bytes, and one of eight
pub u32_again : (n : ℕ) (rest : List ℕ) → n ≤ highest_u32 → Ends rest → any_u32 true (decimal n ++ rest) ≡ Some (n, rest)
u32_again n rest le e = number_again 0 highest_u32 n rest (omega arith) le (omega arith) e

pub u64_again : (n : ℕ) (rest : List ℕ) → n ≤ highest_u64 → Ends rest → any_u64 true (decimal n ++ rest) ≡ Some (n, rest)
u64_again n rest le e = number_again 0 highest_u64 n rest (omega arith) le (omega arith) e

-- two fields that are written are read again, where each is
pub parted_at_again : {A B : Type 0} (word : List ℕ) (first : Reader A) (second : A → Reader B) (a : A) (b : B) (sa sb rest : List ℕ)
    → first (sa ++ (word ++ (sb ++ rest))) ≡ Some (a, word ++ (sb ++ rest)) → second a (sb ++ rest) ≡ Some (b, rest)
    → parted_at word first second ((sa ++ (word ++ sb)) ++ rest) ≡ Some ((a, b), rest)
unfolding parted_at behind
parted_at_again word first second a b sa sb rest one two =
    rw (append_assoc sa (word ++ sb) rest, append_assoc word sb rest, one, word_again word (sb ++ rest), two) refl

-- with one space between
pub parted_again : {A B : Type 0} (first : Reader A) (second : A → Reader B) (a : A) (b : B) (sa sb rest : List ℕ)
    → first (sa ++ 32 ∷ (sb ++ rest)) ≡ Some (a, 32 ∷ (sb ++ rest)) → second a (sb ++ rest) ≡ Some (b, rest)
    → parted_by first second ((sa <+> sb) ++ rest) ≡ Some ((a, b), rest)
parted_again first second a b sa sb rest one two = parted_at_again (codes " ") first second a b sa sb rest one two
