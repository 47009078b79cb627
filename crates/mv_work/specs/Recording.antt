-- What the records of all initiators come to. Of a run there is one of each job, and it is right; and records give lines.
use Rattle.std.specs.Prelude.{All, ◌≡◌, ℕ, ◌+◌, ◌<◌, ◌==◌, ◌≤◌, Bool, List, [], ◌∷◌, length, filter, flat_map, fold, map, replicate, set}
use Rattle.std.specs.Prelude.{Option, Some, slice_get, slice_index_or}
use Rattle.std.specs.List.{AllByRecursion}
use Rattle.mv_board.specs.Faces.{AreHeld}
use Rattle.mv_machine.specs.declared.entry.Entry.{Entry}
use Rattle.mv_machine.specs.Legal.{after}
use Rattle.mv_config.specs.Limits.{events_limit, highest_place}
use Rattle.mv_calls.specs.Keeping.{nothing_kept}
use Rattle.mv_calls.specs.Program.{Done, left}
use Rattle.mv_calls.specs.Runs.{heard_in, left_in}
use Rattle.mv_deck.specs.Deck.{JobData}
use Rattle.mv_deck.specs.declared.deck.Step.{Step}
use Rattle.mv_deck.specs.declared.deck.Step.TheVariants.{Print, Use, Free, Count, Scan, Abend, Return}
use Rattle.mv_report.specs.Outcome.{ends as ends_of_deck, lines as lines_of_deck, print_line, scan_line, steps_with, totals}
use Rattle.mv_plan.specs.Jobs.{job_at, end_of}
use Rattle.mv_plan.specs.SpoolRun.{IsRun}
use Rattle.mv_plan.specs.SpoolSetup.{spool_setup, initiator, writer}
use Rattle.mv_plan.specs.SpoolTasks.{task_program}
use Rattle.mv_work.specs.declared.closing.SpoolRun.{SpoolRun}
use Rattle.mv_work.specs.declared.results.RunResults.{RunResults}
use Rattle.mv_work.specs.declared.records.Noted.{Noted}
use Rattle.mv_work.specs.declared.records.Noted.TheVariants.{Printed, Scanned}
use Rattle.mv_work.specs.Noting.{initiating_noted}
use Rattle.mv_work.specs.Records.{JobRecord}

-- ---- right records

-- these are the notes of steps that were done, the first of which has this place: one for each PRINT, and one for each SCAN, which
-- read one number twice
abbrev pub AreNotesOf : List Step → ℕ → List Noted → Type 0
AreNotesOf [] place notes = notes ≡ []
AreNotesOf (Print text ∷ steps) place notes =
    (rest : List Noted) × (notes ≡ Printed place ∷ rest) × AreNotesOf steps (place + 1) rest
AreNotesOf (Use latch mode ∷ steps) place notes = AreNotesOf steps (place + 1) notes
AreNotesOf (Free latch ∷ steps) place notes = AreNotesOf steps (place + 1) notes
AreNotesOf (Count v amount ∷ steps) place notes = AreNotesOf steps (place + 1) notes
AreNotesOf (Scan v ∷ steps) place notes =
    (number : ℕ) × (rest : List Noted) × (notes ≡ Scanned place number number ∷ rest) × AreNotesOf steps (place + 1) rest
AreNotesOf (Abend code ∷ steps) place notes = AreNotesOf steps (place + 1) notes
AreNotesOf (Return code ∷ steps) place notes = AreNotesOf steps (place + 1) notes

-- there is one record of the job, with its end, and notes of the steps that it does
pub record IsRecorded (deck : List JobData) (records : List JobRecord) (j : ℕ) : Type 0 where
  pub found : JobRecord
  pub alone : filter (λ r. r.job == j) records ≡ found ∷ []
  pub end : found.end ≡ end_of deck j
  pub notes : AreNotesOf (steps_with (end_of deck j) (job_at deck j).steps) 0 found.notes

-- so each job is recorded, and nothing else
pub record AreRecorded (deck : List JobData) (records : List JobRecord) : Type 0 where
  pub each : (j : ℕ) → j < length deck → IsRecorded deck records j
  pub known : AllByRecursion (λ r. r.job < length deck) records

-- each initiator's records are those that its task answers, by what it heard
pub record AreBrought (deck : List JobData) (initiators : ℕ) (es : List Entry) (records : List (List JobRecord)) : Type 0 where
  pub count : length records ≡ initiators
  pub each : (i : ℕ) → i < initiators
      → left (initiating_noted (spool_setup deck initiators) deck i (nothing_kept (initiator i)))
      (heard_in (spool_setup deck initiators) (initiator i) es)
      ≡ Done (slice_index_or records i [])

-- the records of all initiators
abbrev pub all_records : List (List JobRecord) → List JobRecord
all_records records = flat_map (λ rs. rs) records

-- the results are of one run of the deck: what its board held, what the initiators noted, and which ends the writer found
pub record AreOfRun (deck : List JobData) (initiators : ℕ) (results : RunResults) : Type 0 where
  pub run : IsRun deck initiators results.closed.history.coming
  pub volumes :
      AreHeld (spool_setup deck initiators) (after (spool_setup deck initiators) results.closed.history.coming) results.closed.volumes
  pub records : AreBrought deck initiators results.closed.history.coming (map (λ r. r.jobs) results.records.items)
  pub ends : left_in (spool_setup deck initiators) (task_program deck initiators) (writer initiators) results.closed.history.coming
      ≡ Done results.ends.items

-- they are of a run that was closed, of which nothing was given yet
pub record AreResults (deck : List JobData) (initiators : ℕ) (results : RunResults) : Type 0 where
  pub config : results.closed.history.config ≡ spool_setup deck initiators
  pub whole : results.closed.history.past ≡ []
  pub few : length results.closed.history.coming ≤ events_limit
  pub of_run : AreOfRun deck initiators results

-- ---- the lines that records give

-- the line of a PRINT, where the step is one
abbrev pub lines_printed : Option Step → List (List ℕ)
lines_printed (Some (Print text)) = print_line text ∷ []
lines_printed step = []

-- that of a SCAN, where the step is one, by whether it read one number twice
abbrev pub lines_scanned : Bool → Option Step → List (List ℕ)
lines_scanned steady (Some (Scan v)) = scan_line v steady ∷ []
lines_scanned steady step = []

-- what is noted of one of these steps, as a line
abbrev pub lines_of_note : List Step → Noted → List (List ℕ)
lines_of_note steps (Printed place) = lines_printed (slice_get steps place)
lines_of_note steps (Scanned place first second) = lines_scanned (first == second) (slice_get steps place)

-- the lines of all that is noted
abbrev pub lines_of_notes : List Step → List Noted → List (List ℕ)
lines_of_notes steps notes = flat_map (lines_of_note steps) notes

-- the lines of each job, with those of a record's job
abbrev pub with_record : List JobData → List (List (List ℕ)) → JobRecord → List (List (List ℕ))
with_record deck lines r = set lines r.job (lines_of_notes (job_at deck r.job).steps r.notes)

-- the lines of each job by these records: a job without one has none
abbrev pub lines_recorded : List JobData → List JobRecord → List (List (List ℕ))
lines_recorded deck records = fold (with_record deck) (replicate (length deck) []) records

-- ---- a run

-- The outcome is one of a run of the deck by this many initiators. Its history is a run of the plan, of which no entry was read
-- yet. Its records and its ends are what the tasks brought back of that history, and its lines are those of the records. Ends,
-- lines and volumes are the deck's.
pub record IsRunOf (deck : List JobData) (initiators : ℕ) (r : SpoolRun) : Type 0 where
  pub config : r.history.config ≡ spool_setup deck initiators
  pub whole : r.history.past ≡ []
  pub run : IsRun deck initiators r.history.coming
  pub few : length r.history.coming ≤ events_limit
  pub places : All (λ e. e.place ≤ highest_place) r.history.coming
  pub records : AreBrought deck initiators r.history.coming (map (λ j. j.jobs) r.records.items)
  pub found : left_in (spool_setup deck initiators) (task_program deck initiators) (writer initiators) r.history.coming ≡ Done r.ends.items
  pub noted : r.lines.items ≡ lines_recorded deck (all_records (map (λ j. j.jobs) r.records.items))
  pub ends : r.ends.items ≡ ends_of_deck deck
  pub lines : r.lines.items ≡ lines_of_deck deck
  pub volumes : r.volumes.items ≡ totals deck
