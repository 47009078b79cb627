-- The limits of a script.
use Rattle.std.specs.Prelude.{ℕ}

-- the most tasks of a script
abbrev pub most_tasks : ℕ
most_tasks = 8

-- the most event control blocks of a script
abbrev pub most_ecbs : ℕ
most_ecbs = 64

-- the most exits of a script
abbrev pub most_exits : ℕ
most_exits = 16

-- the most targets of an exit
abbrev pub most_targets : ℕ
most_targets = 4

-- the most calls of a task
abbrev pub most_calls : ℕ
most_calls = 128

-- the most blocks of one WAIT
abbrev pub most_waited : ℕ
most_waited = 8

-- the highest count of a WAIT; a count above the number of its blocks is not a fault: the call is refused
abbrev pub highest_count : ℕ
highest_count = 99

-- the highest number of a latch; one that does not exist is not a fault: the call is refused
abbrev pub highest_latch : ℕ
highest_latch = 99

-- the highest size of a table that a TABLE may state; for one that no table may have, the line's fault is a bad table
abbrev pub highest_size : ℕ
highest_size = 99

-- the highest position of an EVNEXT; one that the table does not have is not a fault: the call is refused
abbrev pub highest_position : ℕ
highest_position = 99

-- ---- what the configuration of every script has

-- the number of elements of each task
abbrev pub elements_per_task : ℕ
elements_per_task = 4

-- the number of volumes
abbrev pub volumes : ℕ
volumes = 8

-- the number of latches
abbrev pub latches : ℕ
latches = 8

-- the most latch requests that a task may have at once
abbrev pub quota : ℕ
quota = 8

-- how many of these requests may be of the Posted form
abbrev pub posted_quota : ℕ
posted_quota = 4
