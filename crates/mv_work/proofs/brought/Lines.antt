-- The lines that right records give are the deck's.
use Rattle.std.proofs.Common.{◌≡◌, ℕ, zero, suc, ◌+◌, ◌<◌, ◌≤◌, Bool, true, false, List, [], ◌∷◌, ◌++◌, length, map, fold, get_or, set, inl}
use Rattle.std.proofs.Common.{replicate, slice_get, Some, if◌then◌else◌, inr, ◌⊎◌, refl, sym, ap, ◌∙◌, arith}
use Rattle.std.proofs.lemmas.Bool.{cases_eq, eq-eqb}
use Rattle.std.proofs.lemmas.List.{length-set, length-replicate, get_or-set_same, get_or-set_other, ext_get_or}
use Rattle.mv_machine.specs.declared.entry.Entry.{Entry}
use Rattle.mv_deck.specs.Deck.{JobData}
use Rattle.mv_deck.specs.declared.deck.Step.{Step}
use Rattle.mv_deck.specs.declared.deck.Step.TheVariants.{Print, Use, Free, Count, Scan, Abend, Return}
use Rattle.mv_report.specs.EndCode.{is_not_run}
use Rattle.mv_report.specs.Outcome.{before_end, ends, steps_with, all_steps_with, lines_of_steps, lines, print_line, scan_line}
use Rattle.mv_report.proofs.Lengths.{one_end_per_job, one_lines_per_job}
use Rattle.mv_plan.specs.SpoolRun.{IsRun}
use Rattle.mv_plan.proofs.deck.Planned.{IsPlanned}
use Rattle.mv_plan.specs.Jobs.{no_job, job_at, end_of}
use Rattle.mv_work.specs.declared.records.Noted.{Noted}
use Rattle.mv_work.specs.Records.{JobRecord}
use Rattle.mv_work.specs.Recording.{AreNotesOf, IsRecorded, AreRecorded, lines_of_notes, lines_printed, lines_scanned, with_record}
use Rattle.mv_work.specs.Recording.{lines_recorded, all_records, AreBrought}
use Rattle.mv_work.proofs.brought.Recorded.{are_recorded}
use Rattle.mv_work.proofs.brought.OneRecord.{about, about_own, about_other}

-- ---- the lines of right notes

module _ (all : List Step) where
  -- the steps from this place on
  abbrev AreFrom : ℕ → List Step → Type 0
  AreFrom place steps = (k : ℕ) → slice_get all (place + k) ≡ slice_get steps k

  behind : (place : ℕ) (step : Step) (steps : List Step) → AreFrom place (step ∷ steps) → AreFrom (place + 1) steps
  behind place step steps are k = ap (slice_get all) (let e : place + 1 + k ≡ place + suc k = omega arith in e) ∙ are (suc k)

  here : (place : ℕ) (step : Step) (steps : List Step) → AreFrom place (step ∷ steps) → slice_get all place ≡ Some step
  here place step steps are = ap (slice_get all) (let e : place ≡ place + 0 = omega arith in e) ∙ are 0

  notes_lines : (place : ℕ) (steps : List Step) (notes : List Noted) → AreFrom place steps → AreNotesOf (before_end steps) place notes
      → lines_of_notes all notes ≡ lines_of_steps (before_end steps)
  notes_lines place [] notes are w = ap (lines_of_notes all) w
  notes_lines place (Print text ∷ steps) notes are w =
      ap (lines_of_notes all) w.1
      ∙ ap (λ slot. lines_printed slot ++ lines_of_notes all w.0) (here place (Print text) steps are)
      ∙ ap (λ ls. print_line text ∷ ls) (notes_lines (place + 1) steps w.0 (behind place (Print text) steps are) w.2)
  notes_lines place (Use latch mode ∷ steps) notes are w = notes_lines (place + 1) steps notes (behind place (Use latch mode) steps are) w
  notes_lines place (Free latch ∷ steps) notes are w = notes_lines (place + 1) steps notes (behind place (Free latch) steps are) w
  notes_lines place (Count v amount ∷ steps) notes are w = notes_lines (place + 1) steps notes (behind place (Count v amount) steps are) w
  notes_lines place (Scan v ∷ steps) notes are w =
      ap (lines_of_notes all) w.2
      ∙ ap (λ b. lines_scanned b (slice_get all place) ++ lines_of_notes all w.1) (eq-eqb w.0 w.0 refl)
      ∙ ap (λ slot. lines_scanned true slot ++ lines_of_notes all w.1) (here place (Scan v) steps are)
      ∙ ap (λ ls. scan_line v true ∷ ls) (notes_lines (place + 1) steps w.1 (behind place (Scan v) steps are) w.3)
  notes_lines place (Abend code ∷ steps) notes are w = ap (lines_of_notes all) w
  notes_lines place (Return code ∷ steps) notes are w = ap (lines_of_notes all) w

-- so of the steps that a job does
steps_lines : (end : ℕ) (steps : List Step) (notes : List Noted) → AreNotesOf (steps_with end steps) 0 notes
    → lines_of_notes steps notes ≡ lines_of_steps (steps_with end steps)
steps_lines end steps notes w = go (is_not_run end) w where
  go : (b : Bool) → AreNotesOf (if b then [] else before_end steps) 0 notes
      → lines_of_notes steps notes ≡ lines_of_steps (if b then [] else before_end steps)
  go true w = ap (lines_of_notes steps) w
  go false w = notes_lines steps 0 steps notes (λ k. ap (slice_get steps) (let e : 0 + k ≡ k = omega arith in e)) w

-- ---- the records of all jobs

module _ (deck : List JobData) where
  long_still : (records : List JobRecord) (ls : List (List (List ℕ))) → length (fold (with_record deck) ls records) ≡ length ls
  long_still [] ls = refl
  long_still (r ∷ records) ls = long_still records (with_record deck ls r)
      ∙ length-set ls r.job (lines_of_notes (job_at deck r.job).steps r.notes)

  -- a job that has no record among these keeps its lines
  none_put : (j : ℕ) (records : List JobRecord) (ls : List (List (List ℕ))) → about j records ≡ []
      → get_or (fold (with_record deck) ls records) j [] ≡ get_or ls j []
  none_put j [] ls e = refl
  none_put j (r ∷ records) ls e = go (cases_eq r.job j) (none_put j records (with_record deck ls r)) where
    go : (r.job ≡ j) ⊎ (r.job ≡ j → ⊥)
        → (about j records ≡ []
        → get_or (fold (with_record deck) (with_record deck ls r) records) j [] ≡ get_or (with_record deck ls r) j [])
        → get_or (fold (with_record deck) ls (r ∷ records)) j [] ≡ get_or ls j []
    go (inl own) later = absurd (cc (sym (about_own j r records own) ∙ e))
    go (inr other) later = later (sym (about_other j r records other) ∙ e)
        ∙ get_or-set_other ls r.job j (lines_of_notes (job_at deck r.job).steps r.notes) [] (λ q. other (sym q))

  -- one that has one record has that record's
  one_put : (j : ℕ) (found : JobRecord) (records : List JobRecord) (ls : List (List (List ℕ))) → j < length ls
      → about j records ≡ found ∷ []
      → get_or (fold (with_record deck) ls records) j [] ≡ lines_of_notes (job_at deck j).steps found.notes
  one_put j found [] ls lt e = absurd (cc e)
  one_put j found (r ∷ records) ls lt e = go (cases_eq r.job j) (one_put j found records (with_record deck ls r)) where
    still : j < length (with_record deck ls r)
    still = let l : length (with_record deck ls r) ≡ length ls =
        length-set ls r.job (lines_of_notes (job_at deck r.job).steps r.notes) in omega arith

    go : (r.job ≡ j) ⊎ (r.job ≡ j → ⊥)
        → (j < length (with_record deck ls r) → about j records ≡ found ∷ []
        → get_or (fold (with_record deck) (with_record deck ls r) records) j [] ≡ lines_of_notes (job_at deck j).steps found.notes)
        → get_or (fold (with_record deck) ls (r ∷ records)) j [] ≡ lines_of_notes (job_at deck j).steps found.notes
    go (inl own) later =
        let both : r ∷ about j records ≡ found ∷ [] = sym (about_own j r records own) ∙ e in
        let is : r ≡ found = cc both in
        let rest : about j records ≡ [] = cc both in
        none_put j records (with_record deck ls r) rest
        ∙ ap (λ k. get_or (set ls k (lines_of_notes (job_at deck k).steps r.notes)) j []) own
        ∙ get_or-set_same ls j (lines_of_notes (job_at deck j).steps r.notes) [] lt
        ∙ ap (λ (z : JobRecord). lines_of_notes (job_at deck j).steps z.notes) is
    go (inr other) later = later still (sym (about_other j r records other) ∙ e)

-- ---- the lines of the deck

lines_at : (es : List ℕ) (jobs : List JobData) (j : ℕ) → length es ≡ length jobs → j < length jobs
    → get_or (map lines_of_steps (all_steps_with es jobs)) j [] ≡ lines_of_steps (steps_with (get_or es j 0) (get_or jobs j no_job).steps)
lines_at (end ∷ es) (job ∷ jobs) zero e lt = refl
lines_at (end ∷ es) (job ∷ jobs) (suc j) e lt = lines_at es jobs j (omega arith) (omega arith)
lines_at [] (job ∷ jobs) j e lt = absurd (omega arith)
lines_at es [] j e lt = absurd (omega arith)

pub right_lines : (deck : List JobData) (records : List JobRecord) → AreRecorded deck records → lines_recorded deck records ≡ lines deck
right_lines deck records right = ext_get_or [] (lines_recorded deck records) (lines deck)
    (long ∙ sym (one_lines_per_job deck)) (λ j lt. each j (let l = long in omega arith)) where
      empty : List (List (List ℕ))
      empty = replicate (length deck) []

      long : length (lines_recorded deck records) ≡ length deck
      long = long_still deck records empty ∙ length-replicate (length deck) []

      each : (j : ℕ) → j < length deck → get_or (lines_recorded deck records) j [] ≡ get_or (lines deck) j []
      each j lt =
          let r : IsRecorded deck records j = right.each j lt in
          one_put deck j r.found records empty
          (let l : length empty ≡ length deck = length-replicate (length deck) [] in omega arith) r.alone
          ∙ steps_lines (end_of deck j) (job_at deck j).steps r.found.notes r.notes
          ∙ sym (lines_at (ends deck) deck j (one_end_per_job deck) lt)

-- so those of a run
pub run_lines : (deck : List JobData) (initiators : ℕ) → 1 ≤ initiators → IsPlanned deck initiators → (es : List Entry)
    → IsRun deck initiators es → (records : List (List JobRecord)) → AreBrought deck initiators es records
    → lines_recorded deck (all_records records) ≡ lines deck
run_lines deck initiators some planned es run records brought =
    right_lines deck (all_records records) (are_recorded deck initiators some planned es run records brought)
