-- How much was read of an input with a limit of bytes, and what is left of it. The source reports the input's bytes.
use Rattle.std.specs.Prelude.{◌≡◌, ℕ, ◌+◌, ◌<◌, ◌≤◌, ◌⊎◌, List, [], length, drop, Option, Some, IfSome}
use Rattle.mv_io.specs.Source.{LosesFront}

-- the input was read to its end, and is within the limit
pub record IsWhole (limit : ℕ) (input : List ℕ) (left : Option (List ℕ)) : Type 0 where
  pub whole : left ≡ Some []
  pub short : length input ≤ limit

-- the input is longer than the limit, and one byte more than the limit was taken off
pub record IsTooLong (limit : ℕ) (input : List ℕ) (left : Option (List ℕ)) : Type 0 where
  pub long : limit < length input
  pub rest : left ≡ Some (drop (limit + 1) input)

-- the source failed after a prefix of at most `limit` bytes was taken off
abbrev pub IsCut : ℕ → List ℕ → Option (List ℕ) → Type 0
IsCut limit input left = (k : ℕ) × (k ≤ limit) × LosesFront input left k

-- memory ran out: nothing was taken off, or the input was read to its end
abbrev pub IsAllOrNothing : ℕ → Option (List ℕ) → Option (List ℕ) → Type 0
IsAllOrNothing limit old new = (new ≡ old) ⊎ IfSome old (λ input. IsWhole limit input new)
