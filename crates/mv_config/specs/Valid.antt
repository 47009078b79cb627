-- A configuration that was checked, with its reaches.
use Rattle.std.specs.Prelude.{◌≡◌, ℕ, List}
use Rattle.mv_config.specs.Chains.{AreReaches}
use Rattle.mv_config.specs.Check.{IsValid}
use Rattle.mv_config.specs.Reach.{release_cost}
use Rattle.mv_config.specs.Setup.{Setup}

-- no rule refuses the configuration, and these are its reaches and the cost of a release
pub record IsChecked (c : Setup) (reaches : List ℕ) (cost : ℕ) : Type 0 where
  pub valid : IsValid c
  pub known : AreReaches c reaches
  pub priced : cost ≡ release_cost c
