-- The effect of a read on the bytes that a source has left, if it reports them.
use Rattle.std.specs.Prelude.{ℕ, ◌<◌, ◌≤◌, ◌≡◌, ◌↔◌, List, [], length, take, drop, ⊤, None, Some, Result, MatchResult}
use Rattle.std.specs.declared.option.Option.{Option}

-- the first k of the bytes xs were taken off
pub record LosesFront (xs : List ℕ) (new : Option (List ℕ)) (k : ℕ) : Type 0 where
  pub within : k ≤ length xs
  pub left : new ≡ Some (drop k xs)

-- the first k of the bytes xs were taken off, and are at the front of the buffer
pub record GivesFront (xs : List ℕ) (new : Option (List ℕ)) (buf : List ℕ) (k : ℕ) : Type 0 where
  pub within : k ≤ length xs
  pub left : new ≡ Some (drop k xs)
  pub bytes : take k buf ≡ take k xs

-- the effect of a read, if the bytes that are left are reported: Ok k moves the first k bytes into the buffer, and k is 0 for a
-- buffer with room only at the end of the input; Err takes none off
abbrev pub Reads : {E : Type 0} → Option (List ℕ) → Option (List ℕ) → Result ℕ E → List ℕ → Type 0
Reads None new result buf = ⊤
Reads (Some xs) new result buf =
    MatchResult result (λ k. GivesFront xs new buf k × (0 < length buf → (k ≡ 0 ↔ xs ≡ []))) (λ _. new ≡ Some xs)
