-- Counts of faults: when a count rose, and which results require that.
use Rattle.std.specs.Prelude.{ℕ, ◌+◌, ◌-◌, ◌^◌, ◌<◌, ◌≤◌, ◌≡◌, min, List, length, Result, IfOk, OnErr}

-- the count after one more fault, which stops at the end of its type
abbrev pub one_more : ℕ → ℕ
one_more count = min (count + 1) (2 ^ 64 - 1)

-- a count has risen, or is at the end of its type
abbrev pub Rose : ℕ → ℕ → Type 0
Rose before now = one_more before ≤ now

-- the count did not fall, and it rose if the result is an error
pub record HasCause {T E : Type 0} (before now : ℕ) (result : Result T E) : Type 0 where
  pub later : before ≤ now
  pub failed : OnErr result (Rose before now)

-- the count of a sink did not fall; it rose if the result is an error, or if the write took nothing of a piece that has bytes
pub record HasWriteCause {E : Type 0} (before now : ℕ) (result : Result ℕ E) (piece : List ℕ) : Type 0 where
  pub later : before ≤ now
  pub failed : OnErr result (Rose before now)
  pub stalled : IfOk result (λ k. k ≡ 0 → 0 < length piece → Rose before now)
