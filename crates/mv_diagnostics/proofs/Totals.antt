-- Sums over the steps and the jobs of a deck.
use Rattle.std.proofs.Common.{◌≡◌, ℕ, suc, ◌+◌, ◌<◌, ◌≤◌, List, ◌∷◌, length, map, drop, get_or, ap, ◌∙◌, sum_by, arith}
use Rattle.std.proofs.lemmas.Grind.{common_steps}
use Rattle.std.proofs.lemmas.List.Sums.{sum_by-cons, sum_by-drop_more}
use Rattle.mv_deck.specs.declared.deck.Job.{Job}
use Rattle.mv_deck.specs.declared.deck.Step.{Step}
use Rattle.mv_deck.specs.Deck.{JobData, job_data}
use Rattle.mv_deck.specs.Weight.{after_parts, all_events, heaviest, step_events, weight}

-- the events of a step and of those after it
pub steps_left : (xs : List Step) (i : ℕ) (d : Step) → i < length xs
    → sum_by step_events (drop i xs) ≡ step_events (get_or xs i d) + sum_by step_events (drop (i + 1) xs)
steps_left xs i d lt = sum_by-drop_more step_events xs i d lt

-- two ways to write a place
next_place : (i : ℕ) → suc (i + 1) ≡ suc i + 1
next_place i = omega arith

-- a sum over what jobs state: the first that is left, and those after it
sum_left : (f : JobData → ℕ) (xs : List Job) (i : ℕ) (d : Job) → i < length xs
    → sum_by f (map job_data (drop i xs)) ≡ f (job_data (get_or xs i d)) + sum_by f (map job_data (drop (i + 1) xs))
sum_left f (x ∷ xs) (suc i) d lt =
    sum_left f xs i d (omega arith)
    ∙ ap (λ k. f (job_data (get_or xs i d)) + sum_by f (map job_data (drop k (x ∷ xs)))) (next_place i)
sum_left f xs i d lt = grind (arith, common_steps, sum_by-cons)

-- the events of a job and of those after it
pub events_left : (xs : List Job) (i : ℕ) (d : Job) → i < length xs
    → all_events (map job_data (drop i xs)) ≡ sum_by step_events (get_or xs i d).steps.items + all_events (map job_data (drop (i + 1) xs))
events_left xs i d lt = sum_left (λ (j : JobData). sum_by step_events j.steps) xs i d lt

-- the parts of a job and of those after it
pub parts_left : (xs : List Job) (i : ℕ) (d : Job) → i < length xs
    → after_parts (map job_data (drop i xs)) ≡ length (get_or xs i d).after.items + after_parts (map job_data (drop (i + 1) xs))
parts_left xs i d lt = sum_left (λ (j : JobData). length j.after) xs i d lt

-- a deck that one initiator can run has few jobs, parts and events
pub few_jobs : (jobs : List JobData) → weight jobs 1 ≤ heaviest → length jobs ≤ heaviest
few_jobs jobs light = omega (arith, light)

pub few_parts : (jobs : List JobData) → weight jobs 1 ≤ heaviest → after_parts jobs ≤ heaviest
few_parts jobs light = omega (arith, light)

pub few_events : (jobs : List JobData) → weight jobs 1 ≤ heaviest → all_events jobs ≤ heaviest
few_events jobs light = omega (arith, light)
