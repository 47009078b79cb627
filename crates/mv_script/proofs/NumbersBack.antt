-- A number in front of a text is read again, where no further digit follows it.
use Rattle.std.proofs.Common.{◌≡◌, ℕ, ◌<◌, cond, List, [], ◌∷◌, ◌++◌, length, decimal, refl, sym, ap, ◌∙◌, arith}
use Rattle.std.specs.Str.Parse.{AllDigits, digits_value}
use Rattle.std.proofs.lemmas.Fmt.{decimal_is_IsNumeral, decimal_nonempty}
use Rattle.std.proofs.lemmas.Str.Parse.{digit_from_value}
use Rattle.mv_line.specs.Byte.{is_digit}
use Rattle.mv_line.proofs.Numbers.{is_digit-true}
use Rattle.mv_script.specs.AnswerText.{IsNumber}

-- the digits in front of a text, the number that they show, and what stands behind them
abbrev pub digits_in : List ℕ → List ℕ
digits_in [] = []
digits_in (b ∷ bs) = cond (is_digit b) (b ∷ digits_in bs) []

abbrev pub number_in : List ℕ → ℕ
number_in text = digits_value 10 (digits_in text)

abbrev pub behind_digits : List ℕ → List ℕ
behind_digits [] = []
behind_digits (b ∷ bs) = cond (is_digit b) (behind_digits bs) (b ∷ bs)

-- no digit stands in front
abbrev pub Ends : List ℕ → Type 0
Ends text = (digits_in text ≡ []) × (behind_digits text ≡ text)

digits_again : (ds rest : List ℕ) → AllDigits 10 ds → Ends rest
    → (digits_in (ds ++ rest) ≡ ds) × (behind_digits (ds ++ rest) ≡ rest)
digits_again [] rest h e = e
digits_again (c ∷ cs) rest h e =
    let here = is_digit-true c (digit_from_value c h.0) in
    let more = digits_again cs rest h.1 e in
    (rw (here, more.0) refl, rw (here, more.1) refl)

pub digits_of_number : (n : ℕ) → IsNumber n → AllDigits 10 (decimal n)
digits_of_number n lt = (decimal_is_IsNumeral n lt).0.1

pub number_again : (n : ℕ) (rest : List ℕ) → IsNumber n → Ends rest
    → (number_in (decimal n ++ rest) ≡ n) × (behind_digits (decimal n ++ rest) ≡ rest)
number_again n rest lt e =
    let both = digits_again (decimal n) rest (digits_of_number n lt) e in
    (ap (digits_value 10) both.0 ∙ (decimal_is_IsNumeral n lt).1, both.1)

-- so two numbers that a space follows are one where the texts are
pub same_number : (m n : ℕ) (r s : List ℕ) → IsNumber m → IsNumber n → decimal m ++ 32 ∷ r ≡ decimal n ++ 32 ∷ s → (m ≡ n) × (r ≡ s)
same_number m n r s lm ln e =
    let x = number_again m (32 ∷ r) lm (refl, refl) in
    let y = number_again n (32 ∷ s) ln (refl, refl) in
    let rests : 32 ∷ r ≡ 32 ∷ s = sym x.1 ∙ ap behind_digits e ∙ y.1 in
    (sym x.0 ∙ ap number_in e ∙ y.0, cc)

-- a number has a digit
pub some_digit : (n : ℕ) (rest : List ℕ) → IsNumber n → decimal n ++ rest ≡ [] → ⊥
some_digit n rest lt e = go (decimal n) (decimal_nonempty n lt) e where
  go : (ds : List ℕ) → 0 < length ds → ds ++ rest ≡ [] → ⊥
  go [] some e = omega arith
  go (d ∷ ds) some e = absurd cc
