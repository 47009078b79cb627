-- The state of a call after its first half.
use Rattle.std.specs.Prelude.{⊤}
use Rattle.mv_wait.specs.declared.begun.Begun.{Begun}
use Rattle.mv_wait.specs.declared.begun.Begun.TheVariants.{Over, Waits}

-- P holds of the answer of a call that is over, or Q of what its second half is given
abbrev pub MatchBegun : {A B : Type 0} → Begun A B → (A → Type 0) → (B → Type 0) → Type 0
MatchBegun (Over a) P Q = P a
MatchBegun (Waits b) P Q = Q b

-- P holds of the answer, if the call is over
abbrev pub IfOver : {A B : Type 0} → Begun A B → (A → Type 0) → Type 0
IfOver b P = MatchBegun b P (λ _. ⊤)
