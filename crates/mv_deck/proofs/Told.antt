-- The kinds of fault of a statement, by the answers to what is asked of it.
use Rattle.std.proofs.Common.{◌≡◌, ℕ, ◌+◌, ◌<◌, Bool, true, false, not, List, [], Some, refl, arith}
use Rattle.std.specs.Prelude.{nat_lt}
use Rattle.std.specs.List.{list_any}
use Rattle.std.proofs.Math.Bool.{and-false}
use Rattle.mv_deck.specs.declared.deck.Step.{Step}
use Rattle.mv_deck.specs.Statement.{Statement, Null, JobOf, AfterPart}
use Rattle.mv_deck.specs.Deck.{JobData, last_steps, with_step}
use Rattle.mv_deck.specs.Held.{is_end, is_out_of_order, lacks_latch}
use Rattle.mv_deck.specs.Weight.{weight, heaviest}
use Rattle.mv_deck.specs.Fault.{is_null, is_job, has_bad_name, has_bad_number, repeats_name, awaits_no_job, is_crowded, is_misplaced}
use Rattle.mv_deck.specs.Fault.{is_too_heavy, kinds_behind}
use Rattle.mv_line.specs.Fault.{first_of_list}
use Rattle.mv_deck.specs.Reading.{IsGoodJob}
use Rattle.mv_deck.proofs.Steps.{kinds_of_step}

-- what is asked of nothing
-- what is light enough is not too heavy
pub light : (room w : ℕ) → room + w ≡ heaviest → nat_lt heaviest w ≡ false
light room w e = grind arith

-- what is more than the room is too heavy
pub heavy : (room w added : ℕ) → room + w ≡ heaviest → room < added → nat_lt heaviest (w + added) ≡ true
heavy room w added e lt = grind arith

-- ---- the null statement

-- the first one
pub null_fine : (n : ℕ) (earlier : List Statement) (jobs : List JobData) → list_any is_null earlier ≡ false
    → nat_lt heaviest (weight jobs n) ≡ false → kinds_behind n earlier jobs Null ≡ []
null_fine n earlier jobs e l = rw (e, l, and-false (not (list_any is_job earlier)), and-false (list_any is_end (last_steps jobs))) refl

-- ---- a JOB

module _ (n : ℕ) (earlier : List Statement) (jobs : List JobData) (name : List ℕ) (after : List AfterPart) where
  -- a JOB with this name and list
  abbrev s : Statement
  s = JobOf name after

  -- kind 4
  pub job_bad_name : has_bad_name s ≡ true → first_of_list (kinds_behind n earlier jobs s) ≡ Some 4
  job_bad_name e = rw e refl

  -- kind 11
  pub job_misplaced : has_bad_name s ≡ false → has_bad_number s ≡ false → list_any is_null earlier ≡ true
      → first_of_list (kinds_behind n earlier jobs s) ≡ Some 11
  job_misplaced a e m = rw (a, e, m, and-false (repeats_name jobs s), and-false (awaits_no_job jobs s), and-false (is_crowded s)) refl

  -- kind 8 behind the null statement
  pub job_misnumbered : has_bad_name s ≡ false → has_bad_number s ≡ true → list_any is_null earlier ≡ true
      → first_of_list (kinds_behind n earlier jobs s) ≡ Some 8
  job_misnumbered a e m = rw (a, e, m, and-false (repeats_name jobs s), and-false (awaits_no_job jobs s), and-false (is_crowded s)) refl

  -- before the null statement a JOB is not misplaced
  pub job_placed : list_any is_null earlier ≡ false → is_misplaced earlier s ≡ false
  job_placed m = rw m (and-false (not (list_any is_job earlier)))

  -- kind 5
  pub job_repeats : has_bad_name s ≡ false → is_misplaced earlier s ≡ false → repeats_name jobs s ≡ true
      → first_of_list (kinds_behind n earlier jobs s) ≡ Some 5
  job_repeats a m b = rw (a, m, b) refl

  -- kind 6
  pub job_unknown : has_bad_name s ≡ false → is_misplaced earlier s ≡ false → repeats_name jobs s ≡ false
      → awaits_no_job jobs s ≡ true → first_of_list (kinds_behind n earlier jobs s) ≡ Some 6
  job_unknown a m b c = rw (a, m, b, c) refl

  -- kind 7
  pub job_crowded : has_bad_name s ≡ false → is_misplaced earlier s ≡ false → repeats_name jobs s ≡ false
      → awaits_no_job jobs s ≡ false → is_crowded s ≡ true → first_of_list (kinds_behind n earlier jobs s) ≡ Some 7
  job_crowded a m b c d = rw (a, m, b, c, d) refl

  -- kind 8
  pub job_numbered : has_bad_name s ≡ false → is_misplaced earlier s ≡ false → repeats_name jobs s ≡ false
      → awaits_no_job jobs s ≡ false → is_crowded s ≡ false → has_bad_number s ≡ true
      → first_of_list (kinds_behind n earlier jobs s) ≡ Some 8
  job_numbered a m b c d e = rw (a, m, b, c, d, e) refl

  -- kind 14
  pub job_heavy : IsGoodJob earlier jobs s → is_too_heavy n jobs s ≡ true → first_of_list (kinds_behind n earlier jobs s) ≡ Some 14
  job_heavy g h = rw (g.name, g.place, g.new, g.known, g.few, g.codes, and-false (list_any is_end (last_steps jobs)), h) refl

  -- no kind
  pub job_fine : IsGoodJob earlier jobs s → is_too_heavy n jobs s ≡ false → kinds_behind n earlier jobs s ≡ []
  job_fine g h = rw (g.name, g.place, g.new, g.known, g.few, g.codes, and-false (list_any is_end (last_steps jobs)), h) refl

-- ---- a step

module _ (n : ℕ) (jobs : List JobData) (step : Step) where
  -- kind 14
  pub step_heavy : (misplaced : Bool) → misplaced ≡ false → list_any is_end (last_steps jobs) ≡ false
      → is_out_of_order (last_steps jobs) step ≡ false → lacks_latch (last_steps jobs) step ≡ false
      → nat_lt heaviest (weight (with_step jobs step) n) ≡ true → first_of_list (kinds_of_step n misplaced jobs step) ≡ Some 14
  step_heavy misplaced m e o l h = rw (m, e, o, l, h) refl

  -- no kind
  pub step_fine : (misplaced : Bool) → misplaced ≡ false → list_any is_end (last_steps jobs) ≡ false
      → is_out_of_order (last_steps jobs) step ≡ false → lacks_latch (last_steps jobs) step ≡ false
      → nat_lt heaviest (weight (with_step jobs step) n) ≡ false → kinds_of_step n misplaced jobs step ≡ []
  step_fine misplaced m e o l h = rw (m, e, o, l, h) refl
