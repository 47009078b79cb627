-- The report, byte for byte: for each job its line and the lines that it wrote, then the counts of jobs, and the volumes.
use Rattle.std.specs.Prelude.{ℕ, ◌/◌, ◌%◌, ◌==◌, if◌then◌else◌, List, [], ◌∷◌, ◌++◌, length, slice_index}
use Rattle.std.specs.Prelude.{count_by, flat_map, codes, decimal}
use Rattle.mv_deck.specs.Deck.{JobData}
use Rattle.mv_report.specs.EndCode.{is_ended, is_not_run, is_abended, system_code, user_code}

-- a line of the report, with its LF
abbrev pub line : List ℕ → List ℕ
line text = text ++ codes "\n"

-- ---- how a job ended

-- the digit of a value below 16
abbrev pub digit : ℕ → ℕ
digit value = slice_index (codes "0123456789ABCDEF") value

-- a number below 10000, with zeros in front
abbrev pub four_decimal_digits : ℕ → List ℕ
four_decimal_digits n = digit (n / 1000) ∷ digit (n / 100 % 10) ∷ digit (n / 10 % 10) ∷ digit (n % 10) ∷ []

-- a number below 4096, with zeros in front
abbrev pub three_hexadecimal_digits : ℕ → List ℕ
three_hexadecimal_digits n = digit (n / 256) ∷ digit (n / 16 % 16) ∷ digit (n % 16) ∷ []

-- the text of an abend: its user code if the system code is 0, otherwise only the system code
abbrev pub abend_text : ℕ → List ℕ
abend_text end =
    if system_code end == 0 then codes "U" ++ four_decimal_digits (user_code end)
    else codes "S" ++ three_hexadecimal_digits (system_code end)

-- the words for a job's end in its line
abbrev pub outcome_text : ℕ → List ℕ
outcome_text end =
    if end == 0 then codes "ENDED"
    else if is_ended end then codes "ENDED RC " ++ decimal end
    else if is_not_run end then codes "NOT RUN"
    else codes "ABENDED " ++ abend_text end

-- ---- the jobs

-- the lines that a job wrote; none if it was not run
abbrev pub lines_text : ℕ → List (List ℕ) → List ℕ
lines_text end texts = if is_not_run end then [] else flat_map line texts

-- a job's line, and what it wrote
abbrev pub job_text : List ℕ → ℕ → List (List ℕ) → List ℕ
job_text name end texts =
    line (codes "JOB " ++ name ++ codes " " ++ outcome_text end) ++ lines_text end texts

-- the lines of all jobs, as far as each job has an end and lines
abbrev pub jobs_text : List JobData → List ℕ → List (List (List ℕ)) → List ℕ
jobs_text (job ∷ jobs) (end ∷ ends) (texts ∷ lines) =
    job_text job.name end texts ++ jobs_text jobs ends lines
jobs_text _ _ _ = []

-- ---- the whole

-- the line of counts: how many jobs there are, and how many of them ended in each way
abbrev pub counts_text : ℕ → List ℕ → List ℕ
counts_text jobs ends =
    line (codes "JOBS " ++ decimal jobs
    ++ codes " ENDED " ++ decimal (count_by is_ended ends)
    ++ codes " ABENDED " ++ decimal (count_by is_abended ends)
    ++ codes " NOT RUN " ++ decimal (count_by is_not_run ends))

-- the line of volumes: the number in each, after one space
abbrev pub volumes_text : List ℕ → List ℕ
volumes_text volumes = line (codes "VOLUMES" ++ flat_map (λ volume. codes " " ++ decimal volume) volumes)

-- the last two lines
abbrev pub closing_text : ℕ → List ℕ → List ℕ → List ℕ
closing_text jobs ends volumes = counts_text jobs ends ++ volumes_text volumes

-- the report on jobs that have these ends and lines, and left these volumes
abbrev pub report_text : List JobData → List ℕ → List (List (List ℕ)) → List ℕ → List ℕ
report_text jobs ends lines volumes =
    jobs_text jobs ends lines ++ closing_text (length jobs) ends volumes
