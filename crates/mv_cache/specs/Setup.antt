-- The configuration of a pair that tasks share.
use Rattle.std.specs.Prelude.{ℕ, ◌*◌, [], ◌∷◌}
use Rattle.mv_wait.specs.Prelude.{Setup}

-- how many pairs are written at most
abbrev pub pairs_limit : ℕ
pairs_limit = 20000

-- how often a reader reads at most
abbrev pub reads_limit : ℕ
reads_limit = 20000

-- The writer is caller 0, and three readers come after it. The two volumes are guarded by one latch. For each pair and each read a
-- task obtains the latch by two events at most, has two events on the volumes, and releases it.
abbrev pub cache_setup : ℕ → ℕ → Setup
cache_setup pairs reads = record {
  callers = 4;
  elements_per_caller = 1;
  volumes = 2;
  latches = 1;
  quota = 1;
  posted_quota = 0;
  budgets = 5 * pairs ∷ 5 * reads ∷ 5 * reads ∷ 5 * reads ∷ [];
  owners = [];
  exits = [];
}
