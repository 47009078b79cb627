-- The effect of a write on the bytes that a sink has taken, if it reports them.
use Rattle.std.specs.Prelude.{ℕ, ◌≡◌, ◌<◌, List, ◌++◌, length, take, Some, Result, MatchResult, IfSome}
use Rattle.std.specs.declared.option.Option.{Option}

-- the taken bytes, if reported, grew by all of these
abbrev pub Appends : Option (List ℕ) → Option (List ℕ) → List ℕ → Type 0
Appends old new bytes = IfSome old (λ xs. new ≡ Some (xs ++ bytes))

-- the taken bytes, if reported, grew by a prefix of these, and not by all
abbrev pub AppendsFront : Option (List ℕ) → Option (List ℕ) → List ℕ → Type 0
AppendsFront old new bytes = IfSome old (λ xs. (n : ℕ) × (n < length bytes) × (new ≡ Some (xs ++ take n bytes)))

-- the effect of a write, if the taken bytes are reported: Ok k appends the first k bytes of the piece, Err appends none
abbrev pub Writes : {E : Type 0} → Option (List ℕ) → Option (List ℕ) → Result ℕ E → List ℕ → Type 0
Writes old new result piece = IfSome old (λ xs. MatchResult result (λ k. new ≡ Some (xs ++ take k piece)) (λ _. new ≡ Some xs))
