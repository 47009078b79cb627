-- The configuration of four philosophers.
use Rattle.std.specs.Prelude.{ℕ, ◌*◌, [], ◌∷◌}
use Rattle.mv_wait.specs.Prelude.{Setup}

-- how many meals a philosopher may have
abbrev pub meals_limit : ℕ
meals_limit = 10000

-- Each latch is a fork. A meal is at most six events: each of two latches is obtained by at most two and released by one.
abbrev pub dining_setup : ℕ → Setup
dining_setup meals = record {
  callers = 4;
  elements_per_caller = 1;
  volumes = 1;
  latches = 4;
  quota = 2;
  posted_quota = 0;
  budgets = 6 * meals ∷ 6 * meals ∷ 6 * meals ∷ 6 * meals ∷ [];
  owners = [];
  exits = [];
}
