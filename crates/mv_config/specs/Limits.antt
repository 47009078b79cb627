-- The limits of a run, by name.
use Rattle.std.specs.Prelude.{ℕ, ◌^◌}

-- the bound of places, all of which are below it: places have 19 bits
abbrev pub place_limit : ℕ
place_limit = 2 ^ 19

-- the most events that a run may have: the most that a place can count
abbrev pub events_limit : ℕ
events_limit = 524287

-- the highest place of an entry: places count from 0
abbrev pub highest_place : ℕ
highest_place = 524286

-- the highest generation that an element reaches within the events of a run: each generation takes at least two events
abbrev pub highest_generation : ℕ
highest_generation = 262143

-- the most callers of a configuration
abbrev pub callers_limit : ℕ
callers_limit = 16

-- the most elements of each caller
abbrev pub elements_limit : ℕ
elements_limit = 16

-- the most volumes of a configuration
abbrev pub volumes_limit : ℕ
volumes_limit = 8

-- the most latches of a configuration
abbrev pub latches_limit : ℕ
latches_limit = 8

-- the most latch requests that a caller may have at once
abbrev pub requests_limit : ℕ
requests_limit = 16

-- the most event control blocks of a configuration
abbrev pub ecbs_limit : ℕ
ecbs_limit = 131072

-- the most exits of a configuration
abbrev pub exits_limit : ℕ
exits_limit = 32768

-- the most blocks that an exit may post
abbrev pub targets_limit : ℕ
targets_limit = 8

-- the bound at which counts of posts saturate: it represents itself and all higher counts
abbrev pub highest_reach : ℕ
highest_reach = 524288
