-- A deck has one end and one list of lines for each job, and eight totals.
use Rattle.std.proofs.Common.{◌≡◌, ℕ, ◌+◌, List, [], ◌∷◌, ◌++◌, length, refl, sym, arith, add-zero}
use Rattle.std.proofs.lemmas.List.{length-map, length-append}
use Rattle.mv_deck.specs.Deck.{JobData}
use Rattle.mv_report.specs.Outcome.{end_behind, ends_from, ends, all_steps_with, steps_done, lines, totals}

pub length-ends_from : (es : List ℕ) (jobs : List JobData) → length (ends_from es jobs) ≡ length es + length jobs
length-ends_from es [] = sym (add-zero (length es))
length-ends_from es (job ∷ jobs) =
    omega (arith, length-ends_from (es ++ end_behind es job ∷ []) jobs, length-append es (end_behind es job ∷ []))

pub one_end_per_job : (deck : List JobData) → length (ends deck) ≡ length deck
one_end_per_job deck = omega (arith, length-ends_from [] deck)

pub length-all_steps_with : (es : List ℕ) (jobs : List JobData) → length es ≡ length jobs → length (all_steps_with es jobs) ≡ length jobs
length-all_steps_with [] [] e = refl
length-all_steps_with (end ∷ es) (job ∷ jobs) e = omega (arith, length-all_steps_with es jobs (omega arith))
length-all_steps_with [] (job ∷ jobs) e = absurd (omega arith)
length-all_steps_with (end ∷ es) [] e = absurd (omega arith)

pub length-steps_done : (deck : List JobData) → length (steps_done deck) ≡ length deck
length-steps_done deck = length-all_steps_with (ends deck) deck (one_end_per_job deck)

pub one_lines_per_job : (deck : List JobData) → length (lines deck) ≡ length deck
one_lines_per_job deck = simp length-map (length-steps_done deck)

pub eight_totals : (deck : List JobData) → length (totals deck) ≡ 8
eight_totals deck = refl
