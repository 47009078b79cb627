-- The command that the words of the command line state.
use Rattle.std.specs.Prelude.{ℕ, ◌≤◌, List, [], ◌∷◌, Option, Some, None, option_map, option_and_then, codes, if◌then◌else◌}
use Rattle.std.specs.Str.{bytes_eq}
use Rattle.mv_deck.specs.Load.{most_jobs}
use Rattle.mv_line.specs.Number.{number_of, within}
use Rattle.mv_deck.specs.Weight.{most_initiators}
use Rattle.mv_program.specs.declared.command.Command.{Command}
use Rattle.mv_program.specs.declared.command.Command.TheVariants.{Spool, Load, Script, Journal, Polled}
use Rattle.mv_replay.specs.declared.command.JournalCommand.TheVariants.{Replay, Convert}

-- the number of initiators that a word states, if it is a number without a leading zero, from 1 to 8
abbrev pub initiators_of : List ℕ → Option ℕ
initiators_of word = within 1 most_initiators (number_of word)

-- the number of jobs that a word states, if it is a number without a leading zero, from 1 to 2000
abbrev pub jobs_of : List ℕ → Option ℕ
jobs_of word = within 1 most_jobs (number_of word)

-- a load, if both its numbers are stated
abbrev pub load_of : Option ℕ → Option ℕ → Option Command
load_of jobs initiators = option_and_then (λ n. option_map (Load n) initiators) jobs

-- the highest seed of a polled run
abbrev pub highest_seed : ℕ
highest_seed = 9999

-- the seed that a word states, if it is a number without a leading zero, up to 9999
abbrev pub seed_of : List ℕ → Option ℕ
seed_of word = within 0 highest_seed (number_of word)

-- a polled run, if both its numbers are stated
abbrev pub polled_of : Option ℕ → Option ℕ → Option Command
polled_of initiators seed = option_and_then (λ n. option_map (Polled n) seed) initiators

-- the command that these words state: `spool` and a number of initiators, `load` and a number of jobs and a number of
-- initiators, `polled` and a number of initiators and a seed, `script`, `replay` or `convert`, exactly
abbrev pub command_of : List (List ℕ) → Option Command
command_of (word ∷ []) =
    if bytes_eq word (codes "script") then Some Script
    else if bytes_eq word (codes "replay") then Some (Journal Replay)
    else if bytes_eq word (codes "convert") then Some (Journal Convert)
    else None
command_of (word ∷ initiators ∷ []) =
    if bytes_eq word (codes "spool") then option_map Spool (initiators_of initiators) else None
command_of (word ∷ first ∷ second ∷ []) =
    if bytes_eq word (codes "load") then load_of (jobs_of first) (initiators_of second)
    else if bytes_eq word (codes "polled") then polled_of (initiators_of first) (seed_of second)
    else None
command_of _ = None

-- a number of initiators is 1 to 8
abbrev pub AreInitiators : ℕ → Type 0
AreInitiators n = (1 ≤ n) × (n ≤ most_initiators)

-- a number of jobs of a load is 1 to 2000
abbrev pub AreJobs : ℕ → Type 0
AreJobs jobs = (1 ≤ jobs) × (jobs ≤ most_jobs)

-- the numbers of jobs and initiators of a command are in their ranges
abbrev pub IsRunnable : Command → Type 0
IsRunnable (Spool n) = AreInitiators n
IsRunnable (Load jobs n) = AreJobs jobs × AreInitiators n
IsRunnable Script = Unit {0}
IsRunnable (Journal command) = Unit {0}
IsRunnable (Polled n seed) = AreInitiators n
