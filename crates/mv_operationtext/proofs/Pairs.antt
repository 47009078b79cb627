-- The table of the numbers below 100 shows the two digits of each.
use Rattle.std.proofs.Common.{◌≡◌, ℕ, ◌+◌, ◌*◌, ◌/◌, ◌%◌, ◌<◌, Bool, true, ◌&&◌, eqb, get_or, refl}
use Rattle.std.proofs.lemmas.Bool.{agree_below_at, and_parts, eqb-true}
use Rattle.mv_operationtext.specs.declared.reserved.TheConstants.{PAIRS}

abbrev shows : ℕ → Bool
shows n = eqb (get_or PAIRS (n * 2) 0) (48 + n / 10) && eqb (get_or PAIRS (n * 2 + 1) 0) (48 + n % 10)

pub PAIRS_at : (n : ℕ) → n < 100 → (get_or PAIRS (n * 2) 0 ≡ 48 + n / 10) × (get_or PAIRS (n * 2 + 1) 0 ≡ 48 + n % 10)
PAIRS_at n below =
    let both = and_parts _ _ (agree_below_at (λ n. shows n) (λ n. true) 100 n refl below) in
    (eqb-true _ _ both.0, eqb-true _ _ both.1)
