-- Numbers in digits.
use Rattle.std.proofs.Common.{◌≡◌, ℕ, ◌+◌, ◌-◌, ◌*◌, ◌<◌, ◌≤◌, ◌&&◌, Bool, true, false, cond, leb, List, [], ◌∷◌, length, drop}
use Rattle.std.proofs.Common.{get_or, Some, None, refl, ap, arith}
use Rattle.std.proofs.lemmas.Bool.{le-leb, lt-leb}
use Rattle.std.proofs.lemmas.List.{drop_more}
use Rattle.std.specs.Int.{IsInRange}
use Rattle.mv_line.specs.Byte.{is_digit}
use Rattle.mv_line.specs.Number.{value_behind, is_number, number_of, within}

-- a byte in the range of the digits is one
pub is_digit-true : (c : ℕ) → IsInRange 48 57 c → is_digit c ≡ true
is_digit-true c h = rw (le-leb 48 c h.0, le-leb c 57 h.1) refl

-- further digits never show less
pub value_rises : (shown : ℕ) (digits : List ℕ) → shown ≤ value_behind shown digits
value_rises shown [] = omega arith
value_rises shown (d ∷ digits) =
    let more = value_rises (10 * shown + (d - 48)) digits in
    omega arith

-- where the first digits show more than the highest number of a range, the text shows none of it
pub too_high : (low high shown i : ℕ) (text : List ℕ) → i < length text → is_number text ≡ true
    → value_behind shown (drop i text) ≡ value_behind 0 text → high < 10 * shown + (get_or text i 0 - 48)
    → within low high (number_of text) ≡ None
too_high low high shown i text lt is so_far over =
    let digit : ℕ = get_or text i 0 in
    let rises = value_rises (10 * shown + (digit - 48)) (drop (i + 1) text) in
    let split : value_behind shown (drop i text) ≡ value_behind (10 * shown + (digit - 48)) (drop (i + 1) text)
    = ap (value_behind shown) (drop_more text i 0 lt) in
    rw (is, lt-leb (value_behind 0 text) high (omega arith)) (neither (leb low (value_behind 0 text))) where
      neither : (b : Bool) → cond (b && false) (Some (value_behind 0 text)) None ≡ None
      neither true = refl
      neither false = refl
