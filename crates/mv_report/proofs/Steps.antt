-- The steps that one more job does, what they write, and what they add.
use Rattle.std.proofs.Common.{◌≡◌, ℕ, zero, suc, ◌+◌, ◌<◌, List, [], ◌∷◌, ◌++◌, length, get_or, take, map, refl, sym, ap, ◌∙◌, arith}
use Rattle.std.specs.List.{sum_by}
use Rattle.std.proofs.lemmas.List.{length-map, get_or-map, map_more}
use Rattle.std.proofs.Math.Seq.{take-length}
use Rattle.std.proofs.lemmas.Grind.{get_or_default_zero}
use Rattle.std.proofs.lemmas.List.Sums.{sum_by_more}
use Rattle.mv_deck.specs.declared.deck.Job.{Job}
use Rattle.mv_deck.specs.declared.deck.Step.{Step}
use Rattle.mv_deck.specs.Deck.{JobData, job_data}
use Rattle.mv_report.specs.Outcome.{ends, steps_with, all_steps_with, steps_done, lines_of_steps, added_by, held_of}
use Rattle.mv_report.proofs.Lengths.{one_end_per_job, length-steps_done}

-- each job does the steps that its end lets it do
pub get_or-all_steps_with : (es : List ℕ) (jobs : List JobData) (i : ℕ) (d : List Step) (job : JobData) → length es ≡ length jobs
    → i < length jobs → get_or (all_steps_with es jobs) i d ≡ steps_with (get_or es i 0) (get_or jobs i job).steps
get_or-all_steps_with (end ∷ es) (j ∷ jobs) zero d job e lt = refl
get_or-all_steps_with (end ∷ es) (j ∷ jobs) (suc i) d job e lt = get_or-all_steps_with es jobs i d job (omega arith) (omega arith)
get_or-all_steps_with [] (j ∷ jobs) i d job e lt = absurd (omega arith)
get_or-all_steps_with es [] i d job e lt = absurd (omega arith)

-- so the steps that are read off a job's place, by its end, are those of the steps done that stand there
pub steps_of_job : (jobs : List Job) (es : List ℕ) (i : ℕ) (job : Job) (end : ℕ) (steps : List Step) → es ≡ ends (map job_data jobs)
    → i < length jobs → job ≡ get_or jobs i job → end ≡ get_or es i end → steps ≡ steps_with end job.steps.items
    → (i < length (steps_done (map job_data jobs))) × (get_or (steps_done (map job_data jobs)) i [] ≡ steps)
steps_of_job jobs es i job end steps are_ends lt is_job is_end is_steps =
    let deck = map job_data jobs in
    let same : length deck ≡ length jobs = length-map jobs job_data in
    let within : i < length deck = omega arith in
    let inside : i < length es = omega (arith, ap length are_ends, one_end_per_job deck) in
    let job_is : get_or deck i (job_data job) ≡ job_data job =
    get_or-map job_data jobs i job (job_data job) lt ∙ ap job_data (sym is_job) in
    let end_is : get_or (ends deck) i 0 ≡ end =
    ap (λ xs. get_or xs i 0) (sym are_ends) ∙ sym (get_or_default_zero es i end inside) ∙ sym is_end in (
      omega (arith, length-steps_done deck),
      get_or-all_steps_with (ends deck) deck i [] (job_data job) (one_end_per_job deck) within
          ∙ ap (λ e. steps_with e (get_or deck i (job_data job)).steps) end_is
          ∙ ap (λ (j : JobData). steps_with end j.steps) job_is ∙ sym is_steps,
    )

pub lines_more : (done : List (List Step)) (lines : List (List (List ℕ))) (i : ℕ) (steps : List Step) → i < length done
    → lines ≡ map lines_of_steps (take i done) → get_or done i [] ≡ steps
    → lines ++ lines_of_steps steps ∷ [] ≡ map lines_of_steps (take (i + 1) done)
lines_more done lines i steps lt before is =
    rw (map_more lines_of_steps done i [] lt, before, is) refl

pub added_more : (v : ℕ) (done : List (List Step)) (volume i : ℕ) (steps : List Step) → i < length done
    → volume ≡ held_of (sum_by (added_by v) (take i done)) → get_or done i [] ≡ steps
    → held_of (volume + added_by v steps) ≡ held_of (sum_by (added_by v) (take (i + 1) done))
added_more v done volume i steps lt before is =
    let more : sum_by (added_by v) (take (i + 1) done) ≡ sum_by (added_by v) (take i done) + added_by v steps =
    sum_by_more (added_by v) done i [] lt ∙ ap (λ s. sum_by (added_by v) (take i done) + added_by v s) is in
    omega arith

pub added_by_all : (v : ℕ) (done : List (List Step)) (i : ℕ) → i ≡ length done
    → sum_by (added_by v) (take i done) ≡ sum_by (added_by v) done
added_by_all v done i e = ap (λ k. sum_by (added_by v) (take k done)) e ∙ ap (sum_by (added_by v)) (take-length done)
