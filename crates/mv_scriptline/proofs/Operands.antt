-- Numbers in the places of operands.
use Rattle.std.proofs.Common.{◌≡◌, ℕ, ◌≤◌, ◌-◌, ◌^◌, Bool, true, false, List, Option, Some, None, Ok, Err, refl}
use Rattle.std.proofs.Common.{arith, if◌then◌else◌}
use Rattle.std.specs.Prelude.{nat_lt}
use Rattle.mv_line.specs.Byte.{is_within}
use Rattle.mv_line.specs.Number.{is_digits, number_of, within}
use Rattle.mv_scriptline.specs.declared.words.Misread.TheVariants.{NoForm, BadNumber}
use Rattle.mv_scriptline.specs.Operand.{passed, below, number_of_tasks}
use Rattle.mv_scriptline.specs.Words.{Read}

-- what is told of a number, where there is one
abbrev pub told : Option ℕ → Read ℕ
told None = Err BadNumber
told (Some n) = Ok n

all_wide : (n : ℕ) (b : Bool) → nat_lt n (2 ^ 64) ≡ b → is_within 0 (2 ^ 64 - 1) n ≡ b
all_wide n true e = grind arith
all_wide n false e = grind arith

-- what passes as a number of eight bytes is within all of them
pub passed_wide : (shown : Option ℕ) → passed (λ n. nat_lt n (2 ^ 64)) shown ≡ told (within 0 (2 ^ 64 - 1) shown)
passed_wide None = refl
passed_wide (Some n) = rw (all_wide n (nat_lt n (2 ^ 64)) refl) (told_if (nat_lt n (2 ^ 64))) where
  told_if : (b : Bool) → (if b then Ok n else Err BadNumber) ≡ told (if b then Some n else None)
  told_if true = refl
  told_if false = refl

-- a number that was read, put to another test
abbrev pub filtered : (ℕ → Bool) → Read ℕ → Read ℕ
filtered q (Ok n) = if q n then Ok n else Err BadNumber
filtered q (Err why) = Err why

-- where the other test is the stricter one, that is all
stricter : (p q : ℕ → Bool) → ((n : ℕ) → p n ≡ false → q n ≡ false) → (digits : Bool) (shown : Option ℕ)
    → (if digits then passed q shown else Err NoForm) ≡ filtered q (if digits then passed p shown else Err NoForm)
stricter p q le false shown = refl
stricter p q le true None = refl
stricter p q le true (Some n) = go (p n) refl where
  go : (b : Bool) → p n ≡ b → (if q n then Ok n else Err BadNumber) ≡ filtered q (if p n then Ok n else Err BadNumber)
  go true e = rw e refl
  go false e = rw (e, le n e) refl

-- no number at or above one limit is below a lower one
no_lower : (limit wide n : ℕ) → limit ≤ wide → nat_lt n wide ≡ false → nat_lt n limit ≡ false
no_lower limit wide n le e = grind arith

-- a number below a limit is one of eight bytes that is below it
pub filtered_number : (limit : ℕ) (word : List ℕ) → limit ≤ 2 ^ 32 → below limit word ≡ filtered (λ n. nat_lt n limit) (below (2 ^ 64) word)
filtered_number limit word le =
    stricter (λ n. nat_lt n (2 ^ 64)) (λ n. nat_lt n limit) (λ n e. no_lower limit (2 ^ 64) n (omega (arith, le)) e) (is_digits word)
    (number_of word)

-- no number above 8 is one of 1 to 8
no_count : (n : ℕ) → nat_lt n 9 ≡ false → is_within 1 8 n ≡ false
no_count n e = grind arith

-- a number of tasks is one below 9 that is not 0
pub counted_tasks : (word : List ℕ) → number_of_tasks word ≡ filtered (is_within 1 8) (below 9 word)
counted_tasks word = stricter (λ n. nat_lt n 9) (is_within 1 8) no_count (is_digits word) (number_of word)
