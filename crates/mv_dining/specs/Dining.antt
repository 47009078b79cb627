-- What a philosopher keeps to, and that no fork has two holders.
use Rattle.std.specs.Prelude.{◌≡◌, ℕ, ◌<◌, ◌≤◌, List, [], ◌++◌}
use Rattle.std.specs.List.{AllByRecursion}
use Rattle.mv_wait.specs.Prelude.{Entry, Setup, BoardFace, CallerFace, IsOf, IsAtRest}
use Rattle.mv_ordered.specs.Held.{held}
use Rattle.mv_ordered.specs.LatchOrder.{HasLockDiscipline}
use Rattle.mv_ordered.specs.WaitChain.{HoldsAt}
use Rattle.mv_guarded.specs.Guarded.{AreAlone}
use Rattle.mv_dining.specs.Setup.{meals_limit, dining_setup}

-- each of these forks is below this one
abbrev pub AreLower : ℕ → List (ℕ × ℕ) → Type 0
AreLower fork names = AllByRecursion (λ n. n.0 < fork) names

-- a philosopher between two calls
pub record IsDining (b : BoardFace) (t : CallerFace) : Type 0 where
  pub config : (meals : ℕ) × (b.config ≡ dining_setup meals)
  pub task : IsOf b t
  pub rest : IsAtRest t.log
  pub number : t.number < 4
  pub discipline : HasLockDiscipline t.log
  pub alone : AreAlone t.log

-- the board has the configuration for this many meals
pub record IsTable (b : BoardFace) (meals : ℕ) : Type 0 where
  pub config : b.config ≡ dining_setup meals
  pub few : meals ≤ meals_limit

-- a philosopher with this log has kept the lock discipline, obtained each fork exclusively, and put them all back
pub record HasDined (log : List Entry) : Type 0 where
  pub discipline : HasLockDiscipline log
  pub alone : AreAlone log
  pub none : held log ≡ []

-- at no moment of the history does a fork have two holders
abbrev pub NoForkIsShared : Setup → List Entry → Type 0
NoForkIsShared c es = (before later : List Entry) (fork j k : ℕ) → es ≡ before ++ later → HoldsAt c before j fork
    → HoldsAt c before k fork → j ≡ k
