-- What a poll of a script's call leaves.
use Rattle.std.specs.Prelude.{Option, Some, None, Result, Ok, Err}

-- P holds of the answer of a poll, or Q holds if there is no answer yet
abbrev pub IfSettled : {A : Type 0} → Option A → (A → Type 0) → Type 0 → Type 0
IfSettled (Some a) P Q = P a
IfSettled None P Q = Q

-- the same of a poll that may run out of memory, of which nothing is said then
abbrev pub IfAnswered : {A E : Type 0} → Result (Option A) E → (A → Type 0) → Type 0 → Type 0
IfAnswered (Ok o) P Q = IfSettled o P Q
IfAnswered (Err e) P Q = Unit {0}
