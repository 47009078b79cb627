-- Decks that are sound, job by job, and the budgets of their tasks.
use Rattle.std.proofs.Common.{◌≡◌, ℕ, zero, suc, ◌+◌, ◌-◌, ◌*◌, ◌<◌, ◌≤◌, List, [], ◌∷◌, ◌++◌, length, get_or, map, replicate, ap, ◌∙◌}
use Rattle.std.proofs.Common.{arith}
use Rattle.std.specs.List.{AllByRecursion}
use Rattle.std.proofs.lemmas.List.{length-map, length-replicate, get_or-map, get_or-replicate, get_or_append_left}
use Rattle.std.proofs.Math.Seq.{get_or-append_seam}
use Rattle.mv_deck.specs.declared.deck.Job.{Job}
use Rattle.mv_deck.specs.declared.deck.Step.{Step}
use Rattle.mv_deck.specs.Deck.{JobData, job_data}
use Rattle.mv_deck.specs.Sound.{AreSoundJobs, AreSoundSteps, HasGoodNumbers}
use Rattle.mv_deck.specs.Weight.{all_events}
use Rattle.mv_plan.specs.Jobs.{job_at, no_job}
use Rattle.mv_plan.specs.SpoolSetup.{task_budgets}

-- ---- jobs

pub job_count : (deck : List Job) → length (map job_data deck) ≡ length deck
job_count deck = length-map deck job_data

-- the job of a number
pub job_read : (deck : List Job) (j : ℕ) (job : Job) → j < length deck → get_or deck j job ≡ job
    → job_at (map job_data deck) j ≡ job_data job
job_read deck j job lt is = get_or-map job_data deck j job no_job lt ∙ ap job_data is

good_numbers : (done steps : List Step) → AreSoundSteps done steps → AllByRecursion HasGoodNumbers steps
good_numbers done [] sound = tt
good_numbers done (step ∷ steps) sound = (sound.0.numbers, good_numbers (done ++ step ∷ []) steps sound.1)

pub numbers_of : (before jobs : List JobData) (j : ℕ) → AreSoundJobs before jobs → AllByRecursion HasGoodNumbers (job_at jobs j).steps
numbers_of before [] j sound = tt
numbers_of before (job ∷ jobs) zero sound = good_numbers [] job.steps sound.0.steps
numbers_of before (job ∷ jobs) (suc j) sound = numbers_of (before ++ job ∷ []) jobs j sound.1

-- ---- budgets

-- an initiator's
pub initiator_budget : (deck : List JobData) (i k : ℕ) → 2 ≤ k → k < i + 2
    → get_or (task_budgets deck i) k 0 ≡ 5 + 7 * length deck + all_events deck
initiator_budget deck i k low high =
    let most = 5 + 7 * length deck + all_events deck in
    let count = length-replicate i most in
    ap (λ n. get_or (task_budgets deck i) n 0) (let e : k ≡ suc (suc (k - 2)) = omega arith in e)
    ∙ get_or_append_left (replicate i most) (2 * length deck ∷ []) 0 (k - 2) (omega arith) ∙ get_or-replicate i (k - 2) most 0 (omega arith)

-- the writer's
pub writer_budget : (deck : List JobData) (i k : ℕ) → k ≡ i + 2 → get_or (task_budgets deck i) k 0 ≡ 2 * length deck
writer_budget deck i k is =
    let most = 5 + 7 * length deck + all_events deck in
    let count = length-replicate i most in
    ap (λ n. get_or (task_budgets deck i) n 0) (let e : k ≡ suc (suc (length (replicate i most))) = omega arith in e)
    ∙ get_or-append_seam (replicate i most) (2 * length deck) [] 0
