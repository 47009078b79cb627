-- A number up to 9999 with eight digits behind it.
use Rattle.std.proofs.Common.{◌≡◌, ℕ, ◌+◌, ◌/◌, ◌%◌, ◌^◌, ◌≤◌, ◌<◌, List, [], ◌∷◌, ◌++◌, decimal, ap, ◌∙◌, arith, append_assoc}
use Rattle.itoa.proofs.Decimal.{decimal_four}
use Rattle.mv_operationtext.proofs.reserved.with_digits.Goals as goal

abbrev four : ℕ → List ℕ
four n = (48 + n / 100 / 10) ∷ (48 + n / 100 % 10) ∷ (48 + n % 100 / 10) ∷ (48 + n % 100 % 10) ∷ []

decimal_eight : (n : ℕ) → 100000000 ≤ n → n < 2 ^ 64
    → decimal n ≡ (decimal (n / 100000000) ++ four (n / 10000 % 10000)) ++ four (n % 10000)
decimal_eight n low high =
    let front : n / 10000 / 10000 ≡ n / 100000000 = omega arith in
    let upper : decimal (n / 10000) ≡ decimal (n / 100000000) ++ four (n / 10000 % 10000) =
    decimal_four (n / 10000) (omega arith) (omega arith) ∙ ap (λ (m : ℕ). decimal m ++ four (n / 10000 % 10000)) front in
    decimal_four n (omega arith) high ∙ ap (λ (ds : List ℕ). ds ++ four (n % 10000)) upper

behind : (a b c d ds e f whole : List ℕ) → b ≡ a ++ ds → c ≡ b ++ e → d ≡ c ++ f → whole ≡ (ds ++ e) ++ f → d ≡ a ++ whole
behind a b c d ds e f whole p q r w = rw (r, q, p, w) (simp append_assoc)

pub returns-then-number-lt1000000000000-clause-text : goal.returns-then-number-lt1000000000000-clause-text
returns-then-number-lt1000000000000-clause-text c =
    let n = c.args.number in
    behind _ _ _ _ (decimal (n / 100000000)) (four (n / 10000 % 10000)) (four (n % 10000)) (decimal n) c.put_short.ensures.text
    c.put_four.ensures.text c.put_four-then-number-lt1000000000000.ensures.text (decimal_eight n c.requires.long (omega arith))
