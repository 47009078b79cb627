-- What a deck means: how each job ends, which steps it executes, the lines that these write, and what they leave in the volumes.
-- It is computed job by job in the order of the deck; nothing here runs concurrently.
use Rattle.std.specs.Prelude.{ℕ, min, Bool, true, ◌==◌, nat_lt, if◌then◌else◌}
use Rattle.std.specs.Prelude.{List, [], ◌∷◌, ◌++◌, map, flat_map, sum_by, slice_index, codes, decimal}
use Rattle.std.specs.List.{list_any}
use Rattle.mv_deck.specs.declared.deck.After.{After}
use Rattle.mv_deck.specs.declared.deck.Step.{Step}
use Rattle.mv_deck.specs.declared.deck.Step.TheVariants.{Print, Count, Scan, Abend, Return}
use Rattle.mv_deck.specs.Deck.{JobData}
use Rattle.mv_deck.specs.EndCode.{not_run}
use Rattle.mv_report.specs.EndCode.{is_not_run}
use Rattle.mv_report.specs.Report.{report_text}

-- ---- how jobs end

-- the end of a job that is run: the code of its first ABEND or RETURN, 0 if it has neither
abbrev pub own_end : List Step → ℕ
own_end [] = 0
own_end (Abend code ∷ steps) = code
own_end (Return code ∷ steps) = code
own_end (_ ∷ steps) = own_end steps

-- the steps before the first ABEND or RETURN; all steps if there is neither
abbrev pub before_end : List Step → List Step
before_end [] = []
before_end (Abend code ∷ steps) = []
before_end (Return code ∷ steps) = []
before_end (step ∷ steps) = step ∷ before_end steps

-- Whether a part of an AFTER names a job whose end is above the code that the part accepts. `ends` are those of the jobs before
-- the part's own job; a part that names none of these refuses nothing.
abbrev pub is_unaccepted : List ℕ → After → Bool
is_unaccepted ends part = nat_lt part.most (slice_index ends part.job)

-- whether one of these parts refuses the job
abbrev pub some_unaccepted : List ℕ → List After → Bool
some_unaccepted ends parts = list_any (is_unaccepted ends) parts

-- the end of a job that follows jobs with these ends
abbrev pub end_behind : List ℕ → JobData → ℕ
end_behind ends job = if some_unaccepted ends job.after then not_run else own_end job.steps

-- these ends, and after them the ends of the jobs that follow
abbrev pub ends_from : List ℕ → List JobData → List ℕ
ends_from ends [] = ends
ends_from ends (job ∷ jobs) = ends_from (ends ++ end_behind ends job ∷ []) jobs

-- the end of each job
abbrev pub ends : List JobData → List ℕ
ends deck = ends_from [] deck

-- ---- which steps are executed

-- the steps that a job with this end executes
abbrev pub steps_with : ℕ → List Step → List Step
steps_with end steps = if is_not_run end then [] else before_end steps

-- the steps that each of these jobs executes, if these are their ends
abbrev pub all_steps_with : List ℕ → List JobData → List (List Step)
all_steps_with (end ∷ ends) (job ∷ jobs) = steps_with end job.steps ∷ all_steps_with ends jobs
all_steps_with _ _ = []

-- the steps that each job of a deck executes
abbrev pub steps_done : List JobData → List (List Step)
steps_done deck = all_steps_with (ends deck) deck

-- ---- the lines that these steps write

-- the line that a PRINT writes
abbrev pub print_line : List ℕ → List ℕ
print_line text = codes "| " ++ text

-- the line that a SCAN writes; `steady` says whether both reads of the volume returned the same number
abbrev pub scan_line : ℕ → Bool → List ℕ
scan_line volume steady = codes "| SCAN " ++ decimal volume ++ (if steady then codes " STEADY" else codes " UNSTEADY")

-- the lines that a step writes; no run reads two different numbers in a SCAN
abbrev pub lines_of_step : Step → List (List ℕ)
lines_of_step (Print text) = print_line text ∷ []
lines_of_step (Scan volume) = scan_line volume true ∷ []
lines_of_step _ = []

-- the lines that these steps write, in order
abbrev pub lines_of_steps : List Step → List (List ℕ)
lines_of_steps steps = flat_map lines_of_step steps

-- the lines of each job of a deck
abbrev pub lines : List JobData → List (List (List ℕ))
lines deck = map lines_of_steps (steps_done deck)

-- ---- what these steps leave in the volumes, each of which holds 0 at first

-- what a step adds to a volume
abbrev pub added : ℕ → Step → ℕ
added volume (Count v amount) = if v == volume then amount else 0
added volume _ = 0

-- the sum of the amounts that these steps add to a volume
abbrev pub added_by : ℕ → List Step → ℕ
added_by volume steps = sum_by (added volume) steps

-- the sum of the amounts of all COUNT steps of a volume that are executed
abbrev pub total : List JobData → ℕ → ℕ
total deck volume = sum_by (added_by volume) (steps_done deck)

-- the totals of the eight volumes
abbrev pub totals : List JobData → List ℕ
totals deck = map (total deck) (0 ∷ 1 ∷ 2 ∷ 3 ∷ 4 ∷ 5 ∷ 6 ∷ 7 ∷ [])

-- the highest number that 32 bits hold
abbrev pub highest_held : ℕ
highest_held = 4294967295

-- the number in a volume with this total
abbrev pub held_of : ℕ → ℕ
held_of total = min total highest_held

-- ---- the report

-- the report on a deck
abbrev pub report : List JobData → List ℕ
report deck = report_text deck (ends deck) (lines deck) (totals deck)
