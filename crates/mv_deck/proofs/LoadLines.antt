-- What each line of a load states.
use Rattle.std.proofs.Common.{◌≡◌, ℕ, ◌+◌, ◌-◌, ◌*◌, ◌/◌, ◌%◌, ◌<◌, ◌≤◌, ◌==◌, true, false, List, [], ◌∷◌, ◌++◌, length, Some, None, refl}
use Rattle.std.proofs.Common.{sym, ap, subst, ◌∙◌, arith}
use Rattle.std.specs.Prelude.{codes, decimal}
use Rattle.std.specs.Char.{digit_value}
use Rattle.std.specs.Str.Parse.{AllDigits}
use Rattle.std.proofs.lemmas.Bool.{le-leb, ne_eqb}
use Rattle.std.proofs.lemmas.Fmt.{decimal_digit, decimal_is_IsNumeral, length-decimal-le}
use Rattle.std.proofs.lemmas.Str.Parse.{digit_from_value}
use Rattle.mv_latch.specs.declared.request.Mode.TheVariants.{Exclusive}
use Rattle.mv_deck.specs.declared.form.Version.TheVariants.{One}
use Rattle.mv_line.specs.Byte.{is_digit, is_printable, is_space}
use Rattle.mv_line.specs.Line.{longest_line}
use Rattle.mv_line.specs.Part.{parts_at}
use Rattle.mv_deck.specs.Line.{is_comment, comma}
use Rattle.mv_deck.specs.Operand.{is_name, is_name_byte, latch_of, amount_of, user_code_of}
use Rattle.mv_deck.specs.Statement.{Statement, JobOf, PrintOf, UseOf, FreeOf, CountOf, ScanOf, AbendOf, form_of}
use Rattle.mv_deck.specs.Load.{digit_of, four_digits}
use Rattle.mv_deck.proofs.Tidy.{is_tidy}

-- ---- digits

-- what is asked of a digit
pub record IsDigit (d : ℕ) : Type 0 where
  pub digit : is_digit d ≡ true
  pub printable : is_printable d ≡ true
  pub no_space : is_space d ≡ false
  pub no_comma : (d == comma) ≡ false
  pub named : is_name_byte d ≡ true

-- a number below 10 as a byte
pub digit_is : (n : ℕ) → n < 10 → IsDigit (48 + n)
digit_is n lt = record {
  digit = grind arith;
  printable = grind arith;
  no_space = ne_eqb (48 + n) 32 (λ e. omega arith);
  no_comma = ne_eqb (48 + n) 44 (λ e. omega arith);
  named = grind arith;
}

-- a line that states this, and is read as it stands
pub record States (line : List ℕ) (s : Statement) : Type 0 where
  pub tidy : is_tidy line ≡ true
  pub short : length line ≤ longest_line
  pub no_comment : is_comment line ≡ false
  pub form : form_of One line ≡ Some s

-- ---- a JOB

module _ (a b c d e : ℕ) (ia : IsDigit a) (ib : IsDigit b) (ic : IsDigit c) (id : IsDigit d) (ie : IsDigit e) where
  -- the name of these digits
  abbrev pub name : List ℕ
  name = codes "J" ++ a ∷ b ∷ c ∷ d ∷ e ∷ []

  pub name_is_good : is_name name ≡ true
  name_is_good = rw (ia.named, ib.named, ic.named, id.named, ie.named) refl

  -- that waits for no other
  pub job_alone : States (codes "//" ++ name ++ codes " JOB" ++ []) (JobOf name [])
  job_alone = record {
    tidy = rw (ia.printable, ib.printable, ic.printable, id.printable, ie.printable) refl;
    short = omega arith;
    no_comment = refl;
    form = rw (ia.no_space, ib.no_space, ic.no_space, id.no_space, ie.no_space) refl;
  }

  -- that waits for another
  module _ (f g h i j : ℕ) (jf : IsDigit f) (ig : IsDigit g) (ih : IsDigit h) (ii : IsDigit i) (ij : IsDigit j) where
    abbrev other : List ℕ
    other = codes "J" ++ f ∷ g ∷ h ∷ i ∷ j ∷ []

    pub job_after_other : States (codes "//" ++ name ++ codes " JOB" ++ (codes " AFTER=" ++ other))
        (JobOf name (record { name = other; most = None } ∷ []))
    unfolding parts_at
    job_after_other = record {
      tidy = rw (
        ia.printable,
        ib.printable,
        ic.printable,
        id.printable,
        ie.printable,
        jf.printable,
        ig.printable,
        ih.printable,
        ii.printable,
        ij.printable,
        ij.no_space,
      ) refl;
      short = omega arith;
      no_comment = refl;
      form = rw (
        ia.no_space,
        ib.no_space,
        ic.no_space,
        id.no_space,
        ie.no_space,
        jf.no_space,
        ig.no_space,
        ih.no_space,
        ii.no_space,
        ij.no_space,
        jf.no_comma,
        ig.no_comma,
        ih.no_comma,
        ii.no_comma,
        ij.no_comma,
      ) refl;
    }

-- ---- steps, by the digits of their numbers

module _ (d : ℕ) (is : IsDigit d) where
  use_of_digit : States (codes "// USE " ++ (d ∷ []) ++ codes " X") (UseOf (d ∷ []) Exclusive)
  use_of_digit = record { tidy = rw is.printable refl; short = omega arith; no_comment = refl; form = rw is.no_space refl }

  scan_of_digit : States (codes "// SCAN " ++ (d ∷ [])) (ScanOf (d ∷ []))
  scan_of_digit = record { tidy = rw (is.printable, is.no_space) refl; short = omega arith; no_comment = refl; form = rw is.no_space refl }

  free_of_digit : States (codes "// FREE " ++ (d ∷ [])) (FreeOf (d ∷ []))
  free_of_digit = record { tidy = rw (is.printable, is.no_space) refl; short = omega arith; no_comment = refl; form = rw is.no_space refl }

  count_of_digits : (a : ℕ) → IsDigit a → States (codes "// COUNT " ++ (d ∷ []) ++ codes " " ++ (a ∷ [])) (CountOf (d ∷ []) (a ∷ []))
  count_of_digits a also = record {
    tidy = rw (is.printable, also.printable, also.no_space) refl;
    short = omega arith;
    no_comment = refl;
    form = rw (is.no_space, also.no_space) refl;
  }

-- ---- steps, by their numbers

pub use_states : (v : ℕ) → v < 10 → States (codes "// USE " ++ decimal v ++ codes " X") (UseOf (decimal v) Exclusive)
use_states v lt = subst (λ (x : List ℕ). States (codes "// USE " ++ x ++ codes " X") (UseOf x Exclusive)) (sym (decimal_digit v lt))
    (use_of_digit (48 + v) (digit_is v lt))

pub scan_states : (v : ℕ) → v < 10 → States (codes "// SCAN " ++ decimal v) (ScanOf (decimal v))
scan_states v lt = subst (λ (x : List ℕ). States (codes "// SCAN " ++ x) (ScanOf x)) (sym (decimal_digit v lt))
    (scan_of_digit (48 + v) (digit_is v lt))

pub free_states : (v : ℕ) → v < 10 → States (codes "// FREE " ++ decimal v) (FreeOf (decimal v))
free_states v lt = subst (λ (x : List ℕ). States (codes "// FREE " ++ x) (FreeOf x)) (sym (decimal_digit v lt))
    (free_of_digit (48 + v) (digit_is v lt))

pub count_states : (v a : ℕ) → v < 10 → a < 10
    → States (codes "// COUNT " ++ decimal v ++ codes " " ++ decimal a) (CountOf (decimal v) (decimal a))
count_states v a lt less =
    subst (λ (x : List ℕ). States (codes "// COUNT " ++ x ++ codes " " ++ decimal a) (CountOf x (decimal a))) (sym (decimal_digit v lt))
    (subst (λ (y : List ℕ). States (codes "// COUNT " ++ ((48 + v) ∷ []) ++ codes " " ++ y) (CountOf ((48 + v) ∷ []) y))
    (sym (decimal_digit a less))
    (count_of_digits (48 + v) (digit_is v lt) (48 + a) (digit_is a less)))

-- an ABEND with four digits
pub abend_states : (a b c d : ℕ) → IsDigit a → IsDigit b → IsDigit c → IsDigit d
    → States (codes "// ABEND U" ++ a ∷ b ∷ c ∷ d ∷ []) (AbendOf (codes "U" ++ a ∷ b ∷ c ∷ d ∷ []))
abend_states a b c d ia ib ic id = record {
  tidy = rw (ia.printable, ib.printable, ic.printable, id.printable, id.no_space) refl;
  short = omega arith;
  no_comment = refl;
  form = rw (ia.no_space, ib.no_space, ic.no_space, id.no_space) refl;
}

-- ---- a PRINT of a number of any length

-- a byte that is a digit by its value
digit_byte : (d : ℕ) → digit_value d < 10 → IsDigit d
digit_byte d lt =
    let range = digit_from_value d lt in
    let e : 48 + (d - 48) ≡ d = omega arith in
    subst IsDigit e (digit_is (d - 48) (omega arith))

-- digits are tidy
digits_are_tidy : (ds : List ℕ) → 0 < length ds → AllDigits 10 ds → is_tidy ds ≡ true
digits_are_tidy [] some all = absurd (omega arith)
digits_are_tidy (d ∷ []) some all = let is = digit_byte d all.0 in rw (is.printable, is.no_space) refl
digits_are_tidy (d ∷ e ∷ ds) some all = rw ((digit_byte d all.0).printable, digits_are_tidy (e ∷ ds) (omega arith) all.1) refl

-- what stands in front of them
tidy_print : (ds : List ℕ) → 0 < length ds → is_tidy ds ≡ true → is_tidy (codes "// PRINT WORK " ++ ds) ≡ true
tidy_print [] some e = absurd (omega arith)
tidy_print (d ∷ ds) some e = e

pub print_states : (n : ℕ) → n < 10000 → States (codes "// PRINT WORK " ++ decimal n) (PrintOf (codes "WORK " ++ decimal n))
print_states n lt =
    let numeral = (decimal_is_IsNumeral n (omega arith)).0 in
    record {
      tidy = tidy_print (decimal n) numeral.0 (digits_are_tidy (decimal n) numeral.0 numeral.1);
      short = omega (arith, length-decimal-le 4 n (omega arith) lt (omega arith));
      no_comment = refl;
      form = refl;
    }

-- ---- the steps that they are

pub latch_again : (v : ℕ) → v < 8 → latch_of (decimal v) ≡ Some v
latch_again v lt =
    let is = digit_is v (omega arith) in
    let value : 10 * 0 + ((48 + v) - 48) ≡ v = omega arith in
    ap latch_of (decimal_digit v (omega arith)) ∙ rw (is.digit, value, le-leb 0 v (omega arith), le-leb v 7 (omega arith)) refl

pub amount_again : (a : ℕ) → 1 ≤ a → a < 10 → amount_of (decimal a) ≡ Some a
amount_again a some lt =
    let is = digit_is a lt in
    let value : 10 * 0 + ((48 + a) - 48) ≡ a = omega arith in
    ap amount_of (decimal_digit a lt) ∙ rw (is.digit, value, le-leb 1 a some, le-leb a 9999 (omega arith)) refl

-- four digits show their number
pub user_code_again : (n : ℕ) → n ≤ 4095 → user_code_of (four_digits n) ≡ Some n
user_code_again n le =
    let a = digit_is (n / 1000 % 10) (omega arith) in
    let b = digit_is (n / 100 % 10) (omega arith) in
    let c = digit_is (n / 10 % 10) (omega arith) in
    let d = digit_is (n / 1 % 10) (omega arith) in
    let value : 1000 * (digit_of 1000 n - 48) + 100 * (digit_of 100 n - 48) + 10 * (digit_of 10 n - 48) + (digit_of 1 n - 48) ≡ n =
    omega arith in
    rw (a.digit, b.digit, c.digit, d.digit, value, le-leb n 4095 le) refl
