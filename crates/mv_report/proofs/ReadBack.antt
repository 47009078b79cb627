-- What a job's line says of its end reads back as the end code, but for a user code behind a system code.
use Rattle.std.proofs.Common.{◌≡◌, ℕ, zero, suc, ◌+◌, ◌-◌, ◌*◌, ◌/◌, ◌%◌, ◌<◌, ◌≤◌}
use Rattle.std.proofs.Common.{Bool, true, false, cond, eqb, ◌⊎◌, ltb, ◌&&◌, List, get_or, drop, refl, inl, inr, sym, ap, ◌∙◌, arith}
use Rattle.std.specs.Str.Parse.{AllDigits, digits_value}
use Rattle.std.proofs.lemmas.Bool.{cases_eq, eqb-true, eq-eqb, ne_eqb, le-leb, lt-leb, and_parts}
use Rattle.std.proofs.lemmas.Fmt.{digits_value-decimal}
use Rattle.std.proofs.lemmas.Str.Parse.{numerals_by_value, tells_digits}
use Rattle.mv_deck.specs.EndCode.{highest_code, lowest_abend, user_codes, not_run}
use Rattle.mv_report.specs.EndCode.{IsEndCode, is_ended, is_not_run, is_abended, system_code, user_code}
use Rattle.mv_report.specs.Report.{digit, outcome_text}

-- ---- digits

abbrev value_of : ℕ → ℕ
value_of b = cond (ltb b 58) (b - 48) (b - 55)

-- a test that holds of each number below n
abbrev all_below : (ℕ → Bool) → ℕ → Bool
all_below p zero = true
all_below p (suc n) = p n && all_below p n

holds_below : (p : ℕ → Bool) (n v : ℕ) → all_below p n ≡ true → v < n → p v ≡ true
holds_below p zero v h lt = absurd (omega arith)
holds_below p (suc n) v h lt =
    let both = and_parts (p n) (all_below p n) h in
    let rest : v < n → p v ≡ true = holds_below p n v both.1 in
    elim (cases_eq v n) [
      | inl e ↦ rw e both.0
      | inr ne ↦ rest (omega arith)
    ]

value_of-digit : (v : ℕ) → v < 16 → value_of (digit v) ≡ v
value_of-digit v lt = eqb-true _ _ (holds_below (λ w. eqb (value_of (digit w)) w) 16 v refl lt)

-- ---- codes

abbrev decimal_value : ℕ → ℕ → ℕ → ℕ → ℕ
decimal_value a b c d = 1000 * value_of a + 100 * value_of b + 10 * value_of c + value_of d

abbrev hexadecimal_value : ℕ → ℕ → ℕ → ℕ
hexadecimal_value a b c = 256 * value_of a + 16 * value_of b + value_of c

decimal_reads_back : (n : ℕ) → n < 10000
    → decimal_value (digit (n / 1000)) (digit (n / 100 % 10)) (digit (n / 10 % 10)) (digit (n % 10)) ≡ n
decimal_reads_back n lt =
    let a = value_of-digit (n / 1000) (omega arith) in
    let b = value_of-digit (n / 100 % 10) (omega arith) in
    let c = value_of-digit (n / 10 % 10) (omega arith) in
    let d = value_of-digit (n % 10) (omega arith) in
    rw (a, b, c, d) (omega arith)

hexadecimal_reads_back : (n : ℕ) → n < user_codes → hexadecimal_value (digit (n / 256)) (digit (n / 16 % 16)) (digit (n % 16)) ≡ n
hexadecimal_reads_back n lt =
    let a = value_of-digit (n / 256) (omega arith) in
    let b = value_of-digit (n / 16 % 16) (omega arith) in
    let c = value_of-digit (n % 16) (omega arith) in
    rw (a, b, c) (omega arith)

-- ---- outcomes

-- The end code that an outcome's text says: by its first letter; of a job that ended by the digits behind RC, where there are
-- any; of an abend by the letter of its code, and by the digits behind.
abbrev pub end_from : List ℕ → ℕ
end_from text =
    let at : ℕ → ℕ = λ i. get_or text i 0 in
    cond (eqb (at 0) 69) (digits_value 10 (drop 9 text))
    (cond (eqb (at 0) 78) not_run
    (lowest_abend + cond (eqb (at 8) 85) (decimal_value (at 9) (at 10) (at 11) (at 12)) (user_codes * hexadecimal_value (at 9) (at 10)
    (at 11))))

-- an end code without a user code behind a system code
abbrev pub told : ℕ → ℕ
told end =
    cond (is_abended end) (lowest_abend + cond (eqb (system_code end) 0) (user_code end) (user_codes * system_code end)) end

return_reads_back : (end : ℕ) → eqb end 0 ≡ false → is_ended end ≡ true → end ≤ highest_code → end_from (outcome_text end) ≡ told end
return_reads_back end some ended le =
    rw (some, ended) (digits_value-decimal (numerals_by_value (AllDigits 10) tells_digits) end (omega arith))

abend_reads_back : (end : ℕ) → eqb end 0 ≡ false → is_ended end ≡ false → is_not_run end ≡ false
    → system_code end < user_codes → user_code end < 10000
    → end_from (outcome_text end) ≡ told end
abend_reads_back end some gone was_run system user =
    elim (cases_eq (system_code end) 0) [
      | inl e ↦ let none = eq-eqb (system_code end) 0 e in
          rw (some, gone, was_run, none) (ap (λ (n : ℕ). lowest_abend + n) (decimal_reads_back (user_code end) user))
      | inr ne ↦ let coded = ne_eqb (system_code end) 0 ne in
          rw (some, gone, was_run, coded) (ap (λ (n : ℕ). lowest_abend + user_codes * n) (hexadecimal_reads_back (system_code end) system))
    ]

pub outcome_reads_back : (end : ℕ) → IsEndCode end → end_from (outcome_text end) ≡ told end
outcome_reads_back end (inl le) =
    elim (cases_eq end 0) [
      | inl e ↦ rw e refl
      | inr some ↦ return_reads_back end (ne_eqb end 0 some) (le-leb end highest_code le) le
    ]
outcome_reads_back end (inr (low, high)) =
    elim (cases_eq end not_run) [
      | inl e ↦ rw e refl
      | inr run ↦ abend_reads_back end (ne_eqb end 0 (λ e. absurd (omega arith))) (lt-leb end highest_code (omega arith))
          (ne_eqb end not_run run) (omega arith) (omega arith)
    ]

pub outcomes_apart : (a b : ℕ) → IsEndCode a → IsEndCode b → outcome_text a ≡ outcome_text b → told a ≡ told b
outcomes_apart a b ha hb e = sym (outcome_reads_back a ha) ∙ ap end_from e ∙ outcome_reads_back b hb

abend_told : (end : ℕ) → is_ended end ≡ false → is_not_run end ≡ false → lowest_abend ≤ end
    → (system_code end ≡ 0) ⊎ (user_code end ≡ 0) → told end ≡ end
abend_told end gone was_run lowest one =
    elim (cases_eq (system_code end) 0) [
      | inl e ↦ let none = eq-eqb (system_code end) 0 e in rw (gone, was_run, none) (omega arith)
      | inr ne ↦ let coded = ne_eqb (system_code end) 0 ne in rw (gone, was_run, coded) (grind arith)
    ]

-- with one of the two codes 0, all of the end code is told
pub told_is_all : (end : ℕ) → IsEndCode end → (system_code end ≡ 0) ⊎ (user_code end ≡ 0) → told end ≡ end
told_is_all end (inl le) one = rw (le-leb end highest_code le) refl
told_is_all end (inr (low, high)) one =
    elim (cases_eq end not_run) [
      | inl e ↦ rw e refl
      | inr run ↦ abend_told end (lt-leb end highest_code (omega arith)) (ne_eqb end not_run run) low one
    ]
