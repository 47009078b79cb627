-- The configuration of a pool of permits.
use Rattle.std.specs.Prelude.{ℕ, ◌+◌, ◌*◌, [], ◌∷◌}
use Rattle.mv_wait.specs.Prelude.{Setup}

-- how many workers there are: callers 0 to 2
abbrev pub workers : ℕ
workers = 3

-- how many permits there are
abbrev pub permits : ℕ
permits = 2

-- how often a worker may try at most
abbrev pub tries_limit : ℕ
tries_limit = 5000

-- Callers 0 to 2 are the workers, and caller 3 is the manager. Block w calls the manager for worker w, and block 3 + w lets worker w go on.
-- The volume counts the permits that are out, under the latch. A try is at most fourteen events: the permit is taken and given back by five
-- each, and a call of the manager is four; the last call is one event. The manager needs nine for a call.
abbrev pub pool_setup : ℕ → Setup
pool_setup tries = record {
  callers = 4;
  elements_per_caller = 1;
  volumes = 1;
  latches = 1;
  quota = 1;
  posted_quota = 0;
  budgets = (14 * tries + 1) ∷ (14 * tries + 1) ∷ (14 * tries + 1) ∷ (27 * tries + 27) ∷ [];
  owners = 3 ∷ 3 ∷ 3 ∷ 0 ∷ 1 ∷ 2 ∷ [];
  exits = [];
}
