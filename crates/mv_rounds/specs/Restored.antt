-- The numbers that a task has written into the volumes at the beginning of a round.
use Rattle.std.specs.Prelude.{◌≡◌, ℕ, suc, ◌+◌, ◌≤◌, List, [], ◌∷◌, ◌++◌, length}
use Rattle.mv_wait.specs.Prelude.{Entry, Volume, BoardFace, CallerFace, IsOf, IsAtRest}
use Rattle.mv_wait.specs.Prelude.op_on
use Rattle.mv_wait.specs.Prelude.volume_op.{Write}

-- these entries write these numbers into the volumes, from this volume on
abbrev pub AreWrites : ℕ → List ℕ → List Entry → Type 0
AreWrites volume [] [] = Unit {0}
AreWrites volume (x ∷ xs) (e ∷ es) = (e.object ≡ Volume volume) × (e.op ≡ op_on.Volume (Write x)) × AreWrites (suc volume) xs es
AreWrites volume xs es = ⊥

-- the same task has written these numbers into the volumes, from volume 0 on, and made no other event
pub record HasRestored (b : BoardFace) (numbers : List ℕ) (t u : CallerFace) : Type 0 where
  pub task : IsOf b u
  pub rest : IsAtRest u.log
  pub number : u.number ≡ t.number
  pub left : t.left ≤ u.left + length numbers
  pub more : List Entry
  pub logged : u.log ≡ t.log ++ more
  pub writes : AreWrites 0 numbers more
