-- Where a byte first stands.
use Rattle.std.proofs.Common.{◌≡◌, ℕ, Bool, not, List, length, None, arith}
use Rattle.std.specs.List.{position, position_or_len}
use Rattle.std.proofs.lemmas.Grind.{common_steps}
use Rattle.std.proofs.lemmas.List.Sums.{prefix_len-le-length}

-- a byte that is not found has its place behind the last
pub no_place : (p : ℕ → Bool) (xs : List ℕ) → position p xs ≡ None → length xs ≡ position_or_len p xs
no_place p xs e =
    let le = prefix_len-le-length (λ x. not (p x)) xs in
    grind (arith, common_steps)
