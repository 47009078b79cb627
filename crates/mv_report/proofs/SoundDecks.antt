-- A deck that can be run ends with end codes, and what its jobs count fits: its weight bounds how often they count.
use Rattle.std.proofs.Common.{◌≡◌, ℕ, zero, suc, ◌*◌, ◌≤◌, Bool, true, false, cond, List, [], ◌∷◌, ◌++◌, map, refl, inl, inr, arith, ◌==◌}
use Rattle.std.specs.Prelude.{All}
use Rattle.std.specs.List.{AllByRecursion, sum_by}
use Rattle.std.proofs.lemmas.List.Sums.{sum_by-cons}
use Rattle.mv_deck.specs.declared.deck.Step.{Step}
use Rattle.mv_deck.specs.declared.deck.Step.TheVariants.{Print, Use, Free, Count, Scan, Abend, Return}
use Rattle.mv_deck.specs.Deck.{JobData}
use Rattle.mv_deck.specs.Weight.{step_events, all_events, weight, heaviest}
use Rattle.mv_deck.specs.Sound.{HasGoodNumbers, AreSoundSteps, AreSoundJobs, IsSound}
use Rattle.mv_report.specs.EndCode.{IsEndCode, is_not_run}
use Rattle.mv_report.specs.Outcome.{before_end, ends, steps_with, all_steps_with, added, added_by, total, totals, held_of}
use Rattle.mv_report.proofs.EndCodes.{HaveEndCodes, ends_are_end_codes}

-- ---- steps

HaveGoodNumbers : List Step → Type 0
HaveGoodNumbers steps = AllByRecursion HasGoodNumbers steps

good_numbers : (done steps : List Step) → AreSoundSteps done steps → HaveGoodNumbers steps
unfolding HaveGoodNumbers
good_numbers done [] sound = tt
good_numbers done (step ∷ steps) sound = (sound.0.numbers, good_numbers (done ++ step ∷ []) steps sound.1)

have_end_codes : (steps : List Step) → HaveGoodNumbers steps → HaveEndCodes steps
unfolding HaveGoodNumbers
have_end_codes [] good = tt
have_end_codes (Print text ∷ steps) good = have_end_codes steps good.1
have_end_codes (Use latch mode ∷ steps) good = have_end_codes steps good.1
have_end_codes (Free latch ∷ steps) good = have_end_codes steps good.1
have_end_codes (Count volume amount ∷ steps) good = have_end_codes steps good.1
have_end_codes (Scan volume ∷ steps) good = have_end_codes steps good.1
have_end_codes (Abend code ∷ steps) good = (inr (omega (arith, good.0.0), omega (arith, good.0.1)), have_end_codes steps good.1)
have_end_codes (Return code ∷ steps) good = (inl good.0, have_end_codes steps good.1)

-- a step that adds at most 9999 takes two events
few_added : (v : ℕ) (step : Step) → HasGoodNumbers step → 2 * added v step ≤ 9999 * step_events step
few_added v (Print text) good = omega arith
few_added v (Use latch mode) good = omega arith
few_added v (Free latch) good = omega arith
few_added v (Count volume amount) good = either (volume == v) where
  either : (b : Bool) → 2 * cond b amount 0 ≤ 9999 * 2
  either true = omega (arith, good.2)
  either false = omega arith
few_added v (Scan volume) good = omega arith
few_added v (Abend code) good = omega arith
few_added v (Return code) good = omega arith

events : List Step → ℕ
events steps = sum_by step_events steps

all_added_few : (v : ℕ) (steps : List Step) → HaveGoodNumbers steps → 2 * added_by v steps ≤ 9999 * events steps
unfolding HaveGoodNumbers events
all_added_few v [] good = omega arith
all_added_few v (step ∷ steps) good =
    omega (
      arith,
      sum_by-cons (added v) step steps,
      sum_by-cons step_events step steps,
      few_added v step good.0,
      all_added_few v steps good.1,
    )

one_longer : (v : ℕ) (step : Step) (front steps : List Step) → added_by v front ≤ added_by v steps
    → added_by v (step ∷ front) ≤ added_by v (step ∷ steps)
one_longer v step front steps le = omega (arith, sum_by-cons (added v) step front, sum_by-cons (added v) step steps, le)

-- the steps before the end add no more than all
front_added : (v : ℕ) (steps : List Step) → added_by v (before_end steps) ≤ added_by v steps
front_added v [] = omega arith
front_added v (Print text ∷ steps) = one_longer v (Print text) (before_end steps) steps (front_added v steps)
front_added v (Use latch mode ∷ steps) = one_longer v (Use latch mode) (before_end steps) steps (front_added v steps)
front_added v (Free latch ∷ steps) = one_longer v (Free latch) (before_end steps) steps (front_added v steps)
front_added v (Count volume amount ∷ steps) = one_longer v (Count volume amount) (before_end steps) steps (front_added v steps)
front_added v (Scan volume ∷ steps) = one_longer v (Scan volume) (before_end steps) steps (front_added v steps)
front_added v (Abend code ∷ steps) = omega arith
front_added v (Return code ∷ steps) = omega arith

added_few : (v end : ℕ) (steps : List Step) → HaveGoodNumbers steps → 2 * added_by v (steps_with end steps) ≤ 9999 * events steps
added_few v end steps good = either (is_not_run end) where
  either : (b : Bool) → 2 * added_by v (cond b [] (before_end steps)) ≤ 9999 * events steps
  either true = omega arith
  either false = omega (arith, front_added v steps, all_added_few v steps good)

-- ---- jobs

good_jobs : (before jobs : List JobData) → AreSoundJobs before jobs → AllByRecursion (λ job. HaveGoodNumbers job.steps) jobs
good_jobs before [] sound = tt
good_jobs before (job ∷ jobs) sound = (good_numbers [] job.steps sound.0.steps, good_jobs (before ++ job ∷ []) jobs sound.1)

jobs_have_end_codes : (jobs : List JobData) → AllByRecursion (λ job. HaveGoodNumbers job.steps) jobs
    → AllByRecursion (λ job. HaveEndCodes job.steps) jobs
jobs_have_end_codes [] good = tt
jobs_have_end_codes (job ∷ jobs) good = (have_end_codes job.steps good.0, jobs_have_end_codes jobs good.1)

jobs_add_few : (v : ℕ) (es : List ℕ) (jobs : List JobData) → AllByRecursion (λ job. HaveGoodNumbers job.steps) jobs
    → 2 * sum_by (added_by v) (all_steps_with es jobs) ≤ 9999 * all_events jobs
unfolding events
jobs_add_few v [] jobs good = omega arith
jobs_add_few v (end ∷ es) [] good = omega arith
jobs_add_few v (end ∷ es) (job ∷ jobs) good =
    omega (
      arith,
      sum_by-cons (added_by v) (steps_with end job.steps) (all_steps_with es jobs),
      sum_by-cons (λ (j : JobData). sum_by step_events j.steps) job jobs,
      added_few v end job.steps good.0,
      jobs_add_few v es jobs good.1,
    )

-- ---- decks

at_least_once : (initiators n : ℕ) → 1 ≤ initiators → n ≤ initiators * n
at_least_once zero n one = absurd (omega arith)
at_least_once (suc i) n one = omega arith

few_events : (deck : List JobData) (initiators : ℕ) → 1 ≤ initiators → IsSound deck initiators → all_events deck ≤ heaviest
few_events deck initiators one sound =
    let light : weight deck initiators ≤ heaviest = sound.light in
    omega (arith, at_least_once initiators (all_events deck) one)

pub sound_ends : (deck : List JobData) (initiators : ℕ) → IsSound deck initiators → All IsEndCode (ends deck)
sound_ends deck initiators sound = ends_are_end_codes deck (jobs_have_end_codes deck (good_jobs [] deck sound.jobs_stand))

sound_total : (deck : List JobData) (initiators v : ℕ) → 1 ≤ initiators → IsSound deck initiators → held_of (total deck v) ≡ total deck v
sound_total deck initiators v one sound =
    let few : 2 * total deck v ≤ 9999 * all_events deck = jobs_add_few v (ends deck) deck (good_jobs [] deck sound.jobs_stand) in
    let le : all_events deck ≤ heaviest = few_events deck initiators one sound in
    omega arith

pub sound_totals : (deck : List JobData) (initiators : ℕ) → 1 ≤ initiators → IsSound deck initiators
    → map held_of (totals deck) ≡ totals deck
sound_totals deck initiators one sound = each (0 ∷ 1 ∷ 2 ∷ 3 ∷ 4 ∷ 5 ∷ 6 ∷ 7 ∷ []) where
  each : (volumes : List ℕ) → map held_of (map (total deck) volumes) ≡ map (total deck) volumes
  each [] = refl
  each (v ∷ volumes) = rw (sound_total deck initiators v one sound, each volumes) refl
