-- The deck of a load: `n` jobs by one rule, with waiting, abends and all kinds of steps except RETURN among them.
use Rattle.std.specs.Prelude.{ℕ, ◌+◌, ◌-◌, ◌/◌, ◌%◌, Bool, ◌==◌, if◌then◌else◌, List, [], ◌∷◌, ◌++◌, map, flat_map, codes, decimal}
use Rattle.std.specs.List.{range_with_len}
use Rattle.mv_latch.specs.declared.request.Mode.TheVariants.{Exclusive}
use Rattle.mv_deck.specs.declared.deck.After.{After}
use Rattle.mv_deck.specs.declared.deck.Step.{Step}
use Rattle.mv_deck.specs.declared.deck.Step.TheVariants.{Print, Use, Free, Count, Scan, Abend}
use Rattle.mv_deck.specs.Deck.{JobData}
use Rattle.mv_deck.specs.EndCode.{abended}
use Rattle.mv_deck.specs.Operand.{volume_count}

-- the most jobs of a load
abbrev pub most_jobs : ℕ
most_jobs = 2000

-- ---- what job i does, counted from 0

-- the volume in which job i counts, whose latch has the same number
abbrev pub volume_of : ℕ → ℕ
volume_of i = i % volume_count

-- the amount that job i counts
abbrev pub counted_by : ℕ → ℕ
counted_by i = 1 + i % 9

-- whether job i waits for the job three before it; the first that does is job 3
abbrev pub waits : ℕ → Bool
waits i = i % 5 == 3

-- whether job i scans its volume
abbrev pub scans : ℕ → Bool
scans i = i % 4 == 1

-- whether job i abends, with i as the user code and without a FREE of its latch
abbrev pub abends : ℕ → Bool
abends i = i % 7 == 6

-- ---- the text of job i

-- the decimal digit of n at a place of this weight: 1, 10, 100 and so on
abbrev pub digit_of : ℕ → ℕ → ℕ
digit_of weight n = 48 + n / weight % 10

-- a number below 10000, with zeros in front
abbrev pub four_digits : ℕ → List ℕ
four_digits n = digit_of 1000 n ∷ digit_of 100 n ∷ digit_of 10 n ∷ digit_of 1 n ∷ []

-- the name of job i: `J` and i in five digits
abbrev pub load_name : ℕ → List ℕ
load_name i = codes "J" ++ digit_of 10000 i ∷ four_digits i

-- the rest of the JOB statement, if job i waits
abbrev pub after_text : ℕ → List ℕ
after_text i = if waits i then codes " AFTER=" ++ load_name (i - 3) else []

-- the JOB statement
abbrev pub job_line : ℕ → List ℕ
job_line i = codes "//" ++ load_name i ++ codes " JOB" ++ after_text i

-- the COUNT statement
abbrev pub count_line : ℕ → List ℕ
count_line i = codes "// COUNT " ++ decimal (volume_of i) ++ codes " " ++ decimal (counted_by i)

-- the SCAN statement, if job i scans
abbrev pub scan_lines : ℕ → List (List ℕ)
scan_lines i = if scans i then (codes "// SCAN " ++ decimal (volume_of i)) ∷ [] else []

-- the PRINT statement
abbrev pub print_line : ℕ → List ℕ
print_line i = codes "// PRINT WORK " ++ decimal i

-- the last statement
abbrev pub last_line : ℕ → List ℕ
last_line i = if abends i then codes "// ABEND U" ++ four_digits i else codes "// FREE " ++ decimal (volume_of i)

-- all lines of job i
abbrev pub job_lines : ℕ → List (List ℕ)
job_lines i =
    job_line i
    ∷ (codes "// USE " ++ decimal (volume_of i) ++ codes " X")
    ∷ count_line i
    ∷ (scan_lines i ++ print_line i ∷ last_line i ∷ [])

-- the lines of the first n jobs
abbrev pub first_lines : ℕ → List (List ℕ)
first_lines n = flat_map job_lines (range_with_len 0 n)

-- a line with its LF
abbrev pub ended : List ℕ → List ℕ
ended line = line ++ codes "\n"

-- the text of a load of n jobs: the lines of each, then the null statement; every line ends with LF
abbrev pub load_text : ℕ → List ℕ
load_text n = flat_map ended (first_lines n ++ codes "//" ∷ [])

-- ---- what the text states

-- the job that job i waits for, if it does, of which it accepts return code 0
abbrev pub load_after : ℕ → List After
load_after i = if waits i then record { job = i - 3; most = 0 } ∷ [] else []

-- the SCAN step, if job i scans
abbrev pub scan_steps : ℕ → List Step
scan_steps i = if scans i then Scan (volume_of i) ∷ [] else []

-- the last step of job i
abbrev pub last_step : ℕ → Step
last_step i = if abends i then Abend (abended 0 i) else Free (volume_of i)

-- the steps of job i
abbrev pub load_steps : ℕ → List Step
load_steps i =
    Use (volume_of i) Exclusive ∷ Count (volume_of i) (counted_by i)
    ∷ (scan_steps i ++ Print (codes "WORK " ++ decimal i) ∷ last_step i ∷ [])

-- job i
abbrev pub load_job : ℕ → JobData
load_job i = record { name = load_name i; after = load_after i; steps = load_steps i }

-- the jobs of a load of n jobs
abbrev pub load_jobs : ℕ → List JobData
load_jobs n = map load_job (range_with_len 0 n)
