-- The configurations of programs that need event control blocks only.
use Rattle.std.specs.Prelude.{ℕ, List, [], length}
use Rattle.mv_config.specs.Setup.{Setup}

-- a configuration with a caller for each budget and a block for each owner, and with the least that is allowed of all else
abbrev pub blocks_setup : List ℕ → List ℕ → Setup
blocks_setup budgets owners = record {
  callers = length budgets;
  elements_per_caller = 1;
  volumes = 1;
  latches = 1;
  quota = 1;
  posted_quota = 0;
  budgets = budgets;
  owners = owners;
  exits = [];
}
