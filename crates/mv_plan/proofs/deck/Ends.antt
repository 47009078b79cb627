-- The codes that name jobs: a code has one job and one mark, and is never 0; and how the list of released codes grows by an entry. Sound
-- decks: each job's end by the ends of the whole deck, which jobs are not to be run, and that jobs are few enough for codes to name
-- them; the budgets of all tasks are the weight.
use Rattle.mv_plan.proofs.Words.{◌≡◌, ℕ, ◌<◌, ◌≤◌, Bool, List, [], ◌∷◌, ◌++◌, Some, None, refl, ◌∙◌, append-nil, arith, filter_map-append}
use Rattle.mv_plan.proofs.Words.{Entry, released_code, naming, released_codes, code_of, not_to_run, common_steps, ◌+◌, length, ap, Step}
use Rattle.mv_plan.proofs.Words.{JobData, suc, get_or, sum, if◌then◌else◌, sym, subst, zero-add, ◌==◌, true, false, cond, no_job, job_at}
use Rattle.mv_plan.proofs.Words.{end_of, weight, not_run, some_unaccepted, own_end, ends, task_budgets, eq-eqb, ne_eqb}
use Rattle.std.proofs.Common.{add-zero}
use Rattle.mv_report.specs.Outcome.{end_behind}
use Rattle.std.specs.Prelude.{All, take, drop}
use Rattle.std.proofs.lemmas.List.{length-take-le, set-get_or, set_split}
use Rattle.std.proofs.lemmas.List.Elements.{All-from_recursion}
use Rattle.mv_report.proofs.Ends.{ends_by_accepted_codes}
use Rattle.mv_plan.proofs.deck.Planned.{IsPlannedJob, ArePlannedJobs, IsPlanned, Held, ArePlannedSteps}

-- a code has one job, and one mark
pub code_parts : (n j k : ℕ) (a b : Bool) → n ≤ not_to_run → j < n → k < n → code_of j a ≡ code_of k b → (j ≡ k) × (a ≡ b)
code_parts n j k x y few z u e = grind (arith, common_steps)

-- and is not 0
pub never_zero : (j : ℕ) (a : Bool) → code_of j a ≡ 0 → ⊥
never_zero j x e = grind (arith, common_steps)

-- the code of a job names it
pub naming_own : (j : ℕ) (a : Bool) → naming j (Some (code_of j a)) ≡ Some (code_of j a)
naming_own j x = grind (arith, common_steps)

-- and no other
pub naming_other : (n j k : ℕ) (a : Bool) → n ≤ not_to_run → j < n → k < n → (k ≡ j → ⊥) → naming j (Some (code_of k a)) ≡ None
naming_other n j k a few x y d = grind (arith, common_steps)

pub naming_zero : (j : ℕ) → naming j (Some 0) ≡ None
naming_zero j = grind (arith, common_steps)

-- an entry more
pub released_none : (j : ℕ) (past : List Entry) (e : Entry) → naming j (released_code e.op) ≡ None
    → released_codes j (past ++ e ∷ []) ≡ released_codes j past
released_none j past e q = filter_map-append (λ e. naming j (released_code e.op)) past (e ∷ []) ∙ rw q (append-nil (released_codes j past))

pub released_some : (j : ℕ) (past : List Entry) (e : Entry) (code : ℕ) → naming j (released_code e.op) ≡ Some code
    → released_codes j (past ++ e ∷ []) ≡ released_codes j past ++ code ∷ []
released_some j past e code q = filter_map-append (λ e. naming j (released_code e.op)) past (e ∷ []) ∙ rw q refl

-- ---- ends

-- the job of each number in a sound deck is sound
pub sound_job : (from : ℕ) (jobs : List JobData) (j : ℕ) → ArePlannedJobs from jobs → j < length jobs
    → IsPlannedJob (from + j) (job_at jobs j)
sound_job from (job ∷ jobs) (suc j) sound lt =
    subst (λ k. IsPlannedJob k (job_at jobs j)) (let e : from + 1 + j ≡ from + suc j = omega arith in e)
    (sound_job (from + 1) jobs j sound.1 (omega arith))
sound_job from jobs j sound lt = grind (arith, common_steps, add-zero)

-- a deck is the jobs before one of its jobs, that job, and those behind it
around : (deck : List JobData) (j : ℕ) → j < length deck → deck ≡ take j deck ++ job_at deck j ∷ drop (suc j) deck
around deck j lt = sym (set-get_or deck j no_job) ∙ set_split deck j (job_at deck j) lt

-- in a deck whose jobs wait for earlier ones: a job is not run exactly where the end of one that it waits for is not accepted,
-- and ends by its first ABEND or RETURN otherwise
pub end_is : (deck : List JobData) (j : ℕ) → ArePlannedJobs 0 deck → j < length deck
    → end_of deck j ≡ end_behind (ends deck) (job_at deck j)
end_is deck j sound lt =
    let job = job_at deck j in
    let count = length-take-le j deck (omega arith) in
    let earlier : All (λ part. part.job < length (take j deck)) job.after =
    subst (λ n. All (λ part. part.job < n) job.after) (zero-add j ∙ sym count)
    (All-from_recursion (λ part. part.job < 0 + j) job.after (sound_job 0 deck j sound lt).earlier) in
    ap (λ n. get_or (ends deck) n 0) (sym count)
    ∙ subst (λ d. get_or (ends d) (length (take j deck)) 0 ≡ end_behind (ends d) job) (sym (around deck j lt))
    (ends_by_accepted_codes (take j deck) (drop (suc j) deck) job earlier)

-- a deck that is sound has few jobs, so that codes can name them
pub few_jobs : (deck : List JobData) (initiators : ℕ) → IsPlanned deck initiators → length deck ≤ not_to_run
few_jobs deck initiators sound = let w = sound.light in omega arith

-- the budgets of all tasks sum to the weight
pub budgets_sum : (deck : List JobData) (i : ℕ) → sum (task_budgets deck i) ≡ weight deck i
budgets_sum deck i = grind (arith, common_steps)

-- ---- which jobs are not to be run

-- whether a job is not to be run
abbrev pub is_skipped : List JobData → ℕ → Bool
is_skipped deck j = some_unaccepted (ends deck) (job_at deck j).after

-- what a job's steps end with is below the end of a job that is not run
pub own_end_below : (steps : List Step) (held : List Held) → ArePlannedSteps held steps → own_end steps < not_run
own_end_below [] held s = grind (arith, common_steps)
own_end_below (first ∷ steps) held s = grind (arith, common_steps, own_end_below steps)

-- a job is not to be run exactly where its end is the not-run end
pub skipped_ends : (deck : List JobData) (j : ℕ) → ArePlannedJobs 0 deck → j < length deck → is_skipped deck j ≡ (end_of deck j == not_run)
skipped_ends deck j sound lt = go (is_skipped deck j) refl where
  below : own_end (job_at deck j).steps < not_run
  below = own_end_below (job_at deck j).steps [] (sound_job 0 deck j sound lt).steps

  end : (b : Bool) → is_skipped deck j ≡ b → end_of deck j ≡ cond b not_run (own_end (job_at deck j).steps)
  end b e = end_is deck j sound lt ∙ ap (λ z. cond z not_run (own_end (job_at deck j).steps)) e

  go : (b : Bool) → is_skipped deck j ≡ b → is_skipped deck j ≡ (end_of deck j == not_run)
  go true e = e ∙ sym (eq-eqb (end_of deck j) not_run (end true e))
  go false e = e ∙ sym (ne_eqb (end_of deck j) not_run (λ q. let f = end false e in let lt = below in absurd (omega arith)))

-- what an initiator ends a job with, by whether it was told to run it, is the job's end
pub end_by_mark : (deck : List JobData) (j : ℕ) (skipped : Bool) → ArePlannedJobs 0 deck → j < length deck → skipped ≡ is_skipped deck j
    → (if skipped then not_run else own_end (job_at deck j).steps) ≡ end_of deck j
end_by_mark deck j skipped sound lt e = grind (arith, common_steps, end_is)
