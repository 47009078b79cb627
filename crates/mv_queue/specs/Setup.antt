-- The configuration of a bounded queue.
use Rattle.std.specs.Prelude.{ℕ, ◌*◌, [], ◌∷◌}
use Rattle.mv_wait.specs.Prelude.{Setup}

-- how many items may be in the queue
abbrev pub room : ℕ
room = 3

-- how often a task may try to put an item in, or to take one out
abbrev pub tries_limit : ℕ
tries_limit = 10000

-- the volume that counts the items that were taken out, and the one that counts those that were put in
abbrev pub taken_count : ℕ
taken_count = 3

abbrev pub put_count : ℕ
put_count = 4

-- Callers 0 and 1 are the producers, and callers 2 and 3 the consumers. Volumes 0 to 2 have the items, and after them come the two counts.
-- The latch guards all of them. A task waits for the block of its number, which says that the queue has changed. A try is at most ten events:
-- seven in a section of the latch, which is obtained by at most two and released by one; the counts are read by two, and an item is moved and
-- counted by two. Then the task posts two others, or waits by two and clears its block.
abbrev pub queue_setup : ℕ → Setup
queue_setup tries = record {
  callers = 4;
  elements_per_caller = 1;
  volumes = 5;
  latches = 1;
  quota = 1;
  posted_quota = 0;
  budgets = 10 * tries ∷ 10 * tries ∷ 10 * tries ∷ 10 * tries ∷ [];
  owners = 0 ∷ 1 ∷ 2 ∷ 3 ∷ [];
  exits = [];
}
