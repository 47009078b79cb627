-- The weight of a deck: a bound on how many events its run has.
use Rattle.std.specs.Prelude.{ℕ, ◌+◌, ◌*◌, List, length, sum_by}
use Rattle.mv_deck.specs.declared.deck.Step.{Step}
use Rattle.mv_deck.specs.declared.deck.Step.TheVariants.{Print, Use, Free, Count, Scan, Abend, Return}
use Rattle.mv_deck.specs.Deck.{JobData}

-- the heaviest weight of a deck that is run
abbrev pub heaviest : ℕ
heaviest = 524287

-- the most initiators that may run a deck
abbrev pub most_initiators : ℕ
most_initiators = 8

-- how many events a step makes at most
abbrev pub step_events : Step → ℕ
step_events (Print text) = 0
step_events (Use latch mode) = 2
step_events (Free latch) = 1
step_events (Count volume amount) = 2
step_events (Scan volume) = 2
step_events (Abend code) = 0
step_events (Return code) = 0

-- how many events all steps make at most
abbrev pub all_events : List JobData → ℕ
all_events jobs = sum_by (λ j. sum_by step_events j.steps) jobs

-- the number of AFTER parts of all jobs
abbrev pub after_parts : List JobData → ℕ
after_parts jobs = sum_by (λ j. length j.after) jobs

-- the weight of a deck for this many initiators
abbrev pub weight : List JobData → ℕ → ℕ
weight jobs initiators =
    8 * length jobs + 9 * initiators + 9 * length jobs * initiators + 2 * after_parts jobs + initiators * all_events jobs
