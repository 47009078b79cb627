-- The configuration of a hand-over.
use Rattle.std.specs.Prelude.{◌≡◌, ℕ, ◌+◌, ◌*◌, [], ◌∷◌}
use Rattle.mv_wait.specs.Prelude.{Setup}

-- the number of slots
abbrev pub slots : ℕ
slots = 4

-- the highest number of items that are handed over
abbrev pub items_limit : ℕ
items_limit = 65535

-- The producer is caller 0, and the consumer caller 1. Blocks 0 to 3 are the consumer's, and say that a slot is full; blocks 4 to
-- 7 are the producer's, and say that a slot is free. For each item each task waits for a block, clears it, and posts another one.
-- Before that the consumer posts for each slot that it is free.
abbrev pub slots_setup : ℕ → Setup
slots_setup n = record {
  callers = 2;
  elements_per_caller = 1;
  volumes = 1;
  latches = 1;
  quota = 1;
  posted_quota = 0;
  budgets = 4 * n ∷ (4 * n + 4) ∷ [];
  owners = 1 ∷ 1 ∷ 1 ∷ 1 ∷ 0 ∷ 0 ∷ 0 ∷ 0 ∷ [];
  exits = [];
}

-- this is the configuration of a hand-over of some number of items
abbrev pub HasSlots : Setup → Type 0
HasSlots c = (n : ℕ) × (c ≡ slots_setup n)
