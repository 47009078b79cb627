-- The configuration of the spool: a reader, a scheduler, initiators and a writer, which share four blocks for each job and one
-- for each initiator. In the number of a block, n is how many jobs the deck has.
use Rattle.std.specs.Prelude.{ℕ, zero, suc, ◌+◌, ◌*◌, List, [], ◌∷◌, ◌++◌, length, map, replicate}
use Rattle.std.specs.List.{range_with_len}
use Rattle.mv_config.specs.Setup.{Setup, SetupExit}
use Rattle.mv_deck.specs.Deck.{JobData}
use Rattle.mv_deck.specs.Operand.{volume_count}
use Rattle.mv_deck.specs.Weight.{after_parts, all_events}

-- the most jobs for which blocks have numbers; a deck that can be run has fewer, by its weight
abbrev pub jobs_limit : ℕ
jobs_limit = 65535

-- the block that says that job j was entered
abbrev pub entered : ℕ → ℕ
entered j = j

-- the block that says that job j is done
abbrev pub done : ℕ → ℕ → ℕ
done n j = n + j

-- the block that has the end of job j for the scheduler
abbrev pub end_for_scheduler : ℕ → ℕ → ℕ
end_for_scheduler n j = 2 * n + 2 * j

-- the block that has the end of job j for the writer
abbrev pub end_for_writer : ℕ → ℕ → ℕ
end_for_writer n j = 2 * n + 2 * j + 1

-- the block that says that initiator i is idle
abbrev pub idle : ℕ → ℕ → ℕ
idle n i = 4 * n + i

-- the caller number of the reader
abbrev pub reader : ℕ
reader = 0

-- the caller number of the scheduler
abbrev pub scheduler : ℕ
scheduler = 1

-- the caller number of initiator i
abbrev pub initiator : ℕ → ℕ
initiator i = i + 2

-- the caller number of the writer, the last
abbrev pub writer : ℕ → ℕ
writer initiators = initiators + 2

-- the owners of the end blocks of n jobs: for each job the scheduler, and the writer w
abbrev pub end_owners : ℕ → ℕ → List ℕ
end_owners w zero = []
end_owners w (suc n) = scheduler ∷ w ∷ end_owners w n

-- the owner of each block, for n jobs
abbrev pub block_owners : ℕ → ℕ → List ℕ
block_owners n initiators =
    replicate n scheduler ++ replicate n scheduler ++ end_owners (writer initiators) n ++ replicate initiators scheduler

-- the exit of job j: a post of its `done` block posts its two end blocks, too
abbrev pub end_exit : ℕ → ℕ → SetupExit
end_exit n j = record { source = done n j; targets = end_for_scheduler n j ∷ end_for_writer n j ∷ [] }

-- how many events the reader, the scheduler, each initiator and the writer may make
abbrev pub task_budgets : List JobData → ℕ → List ℕ
task_budgets deck initiators =
    length deck
    ∷ (5 * length deck + 2 * length deck * initiators + 2 * after_parts deck + 4 * initiators)
    ∷ (replicate initiators (5 + 7 * length deck + all_events deck) ++ (2 * length deck) ∷ [])

-- the configuration of a deck for this many initiators
abbrev pub spool_setup : List JobData → ℕ → Setup
spool_setup deck initiators = record {
  callers = initiators + 3;
  elements_per_caller = 1;
  volumes = volume_count;
  latches = volume_count;
  quota = volume_count;
  posted_quota = 0;
  budgets = task_budgets deck initiators;
  owners = block_owners (length deck) initiators;
  exits = map (end_exit (length deck)) (range_with_len 0 (length deck));
}
