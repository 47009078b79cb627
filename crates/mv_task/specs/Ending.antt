-- The parts of a task's end.
use Rattle.std.specs.Prelude.{◌≡◌, ℕ, ◌==◌, false, List, [], ◌∷◌, length, filter}
use Rattle.mv_config.specs.Setup.{Setup}
use Rattle.mv_board.specs.Faces.{CallerFace}
use Rattle.mv_calls.specs.Endings.{close_all, used_elements}
use Rattle.mv_calls.specs.declared.outcomes.Purged.{Purged}
use Rattle.mv_calls.specs.Program.{Program}
use Rattle.mv_wait.specs.Run.{Runs, keeps}

-- the task closed those elements of a list that were in use at the beginning, in order, with the generations that it kept then,
-- whatever program follows
abbrev pub Closes : List ℕ → CallerFace → CallerFace → Type 0
Closes ns t u = (p : Program Purged)
    → Runs (length (filter (keeps t).in_use ns)) (close_all (keeps t) (filter (keeps t).in_use ns) p) p t u

-- the task closed one element, if that was in use
abbrev pub ClosesOne : ℕ → CallerFace → CallerFace → Type 0
ClosesOne n t u = Closes (n ∷ []) t u

-- the task closed all of its own elements that were in use
abbrev pub ClosesAll : Setup → CallerFace → CallerFace → Type 0
ClosesAll c t u = (p : Program Purged)
    → Runs (length (used_elements c (keeps t))) (close_all (keeps t) (used_elements c (keeps t)) p) p t u

-- what the task keeps of every element other than n is unchanged
pub record KeepsOthers (n : ℕ) (t u : CallerFace) : Type 0 where
  pub used : (m : ℕ) → (m == n) ≡ false → (keeps u).in_use m ≡ (keeps t).in_use m
  pub generation : (m : ℕ) → (m == n) ≡ false → (keeps u).generation m ≡ (keeps t).generation m
