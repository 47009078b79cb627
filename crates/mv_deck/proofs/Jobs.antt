-- One more job, and one more step of the last job.
use Rattle.std.proofs.Common.{◌≡◌, ℕ, ◌+◌, ◌*◌, Bool, true, false, cond, List, [], ◌∷◌, ◌++◌, length, Option, Some, None, refl, sym}
use Rattle.std.proofs.Common.{ap, ◌∙◌, arith, sum_by, bytes_eq, if◌then◌else◌, length-append}
use Rattle.std.specs.List.{list_any, position_from}
use Rattle.std.proofs.Math.Bool.{or-false}
use Rattle.std.proofs.lemmas.List.Folds.{list_any-append}
use Rattle.std.proofs.lemmas.List.Sums.{sum_by_push}
use Rattle.std.proofs.lemmas.Slice.Eq.{bytes_eq-Decides}
use Rattle.std.proofs.Math.Nat.{add-mul, mul-add}
use Rattle.mv_deck.specs.declared.deck.Step.{Step}
use Rattle.mv_deck.specs.Deck.{JobData, place_of, with_step, last_steps}
use Rattle.mv_deck.specs.Held.{is_end}
use Rattle.mv_deck.specs.Weight.{step_events, all_events, after_parts, weight}

-- a job with one more step
abbrev pub stepped : JobData → Step → JobData
stepped j step = record j { steps = j.steps ++ step ∷ [] }

-- the steps of a job at the end
pub last_steps-push : (jobs : List JobData) (j : JobData) → last_steps (jobs ++ j ∷ []) ≡ j.steps
last_steps-push [] j = refl
last_steps-push (k ∷ []) j = refl
last_steps-push (k ∷ l ∷ jobs) j = last_steps-push (l ∷ jobs) j

-- a step of a job at the end
pub with_step-push : (jobs : List JobData) (j : JobData) (step : Step) → with_step (jobs ++ j ∷ []) step ≡ jobs ++ stepped j step ∷ []
with_step-push [] j step = refl
with_step-push (k ∷ []) j step = refl
with_step-push (k ∷ l ∷ jobs) j step = ap (λ (x : List JobData). k ∷ x) (with_step-push (l ∷ jobs) j step)

-- ---- places of names

-- whether a job has a name
abbrev named : List ℕ → JobData → Bool
named name j = bytes_eq j.name name

-- places that are counted from any number
place_more : (k : ℕ) (jobs : List JobData) (j : JobData) (name : List ℕ)
    → (bytes_eq j.name name ≡ true → position_from (named name) k jobs ≡ None)
    → position_from (named name) k (jobs ++ j ∷ []) ≡ (if bytes_eq j.name name then Some (k + length jobs) else position_from
    (named name) k jobs)
place_more k [] j name new = go (bytes_eq j.name name) where
  go : (b : Bool) → cond b (Some k) None ≡ (if b then Some (k + 0) else None)
  go true = ap (λ (x : ℕ). Some x) (omega arith)
  go false = refl
place_more k (i ∷ jobs) j name new = go (named name i) refl (place_more (k + 1) jobs j name) where
  go : (b : Bool) → named name i ≡ b → ((bytes_eq j.name name ≡ true → position_from (named name) (k + 1) jobs ≡ None)
      → position_from (named name) (k + 1) (jobs ++ j ∷ []) ≡ (if bytes_eq j.name name then Some (k + 1 + length jobs) else position_from
      (named name) (k + 1) jobs))
      → position_from (named name) k (i ∷ jobs ++ j ∷ []) ≡ (if bytes_eq j.name name then Some (k + length (i ∷ jobs)) else position_from
      (named name) k (i ∷ jobs))
  go true e ih = other (bytes_eq j.name name) refl where
    here : position_from (named name) k (i ∷ jobs) ≡ Some k
    here = rw e refl

    other : (b : Bool) → bytes_eq j.name name ≡ b → position_from (named name) k (i ∷ jobs ++ j ∷ []) ≡
        (if bytes_eq j.name name then Some (k + length (i ∷ jobs)) else position_from (named name) k (i ∷ jobs))
    other true f = let n = new f in absurd (cc (here, n))
    other false f = rw (e, f) refl
  go false e ih =
      let same : position_from (named name) k (i ∷ jobs) ≡ position_from (named name) (k + 1) jobs = rw e refl in
      let further : position_from (named name) k (i ∷ jobs ++ j ∷ []) ≡ position_from (named name) (k + 1) (jobs ++ j ∷ []) = rw e refl in
      let count : k + 1 + length jobs ≡ k + length (i ∷ jobs) = omega arith in
      further
      ∙ ih (λ f. sym same ∙ new f)
      ∙ ap (λ (x : ℕ). if bytes_eq j.name name then Some x else position_from (named name) (k + 1) jobs) count
      ∙ ap (λ (x : Option ℕ). if bytes_eq j.name name then Some (k + length (i ∷ jobs)) else x) (sym same)

-- the places behind a job with a new name
pub place-push : (jobs : List JobData) (j : JobData) → place_of jobs j.name ≡ None → (name : List ℕ)
    → place_of (jobs ++ j ∷ []) name ≡ (if bytes_eq j.name name then Some (length jobs) else place_of jobs name)
place-push jobs j new name = place_more 0 jobs j name (λ e. ap (place_of jobs) (sym ((bytes_eq-Decides j.name name).0 e)) ∙ new)
    ∙ ap (λ (x : ℕ). if bytes_eq j.name name then Some x else place_of jobs name) (omega arith)

-- the same for a job with one more step
stepped_place : (k : ℕ) (jobs : List JobData) (j : JobData) (step : Step) (name : List ℕ)
    → position_from (named name) k (jobs ++ stepped j step ∷ []) ≡ position_from (named name) k (jobs ++ j ∷ [])
stepped_place k [] j step name = refl
stepped_place k (i ∷ jobs) j step name = ap (cond (named name i) (Some k)) (stepped_place (k + 1) jobs j step name)

-- a step changes no place
pub place-step : (jobs : List JobData) (j : JobData) (step : Step) (name : List ℕ)
    → place_of (jobs ++ stepped j step ∷ []) name ≡ place_of (jobs ++ j ∷ []) name
place-step jobs j step name = stepped_place 0 jobs j step name

-- ---- the end of the last job

-- whether the steps have an end, behind one more
pub ended-push : (steps : List Step) (step : Step) → list_any is_end steps ≡ false → list_any is_end (steps ++ step ∷ []) ≡ is_end step
ended-push steps step e = list_any-append is_end steps (step ∷ []) ∙ rw e (or-false (is_end step))

-- ---- weights

-- a job adds its own weight
pub weight-push : (jobs : List JobData) (j : JobData) (n : ℕ)
    → weight (jobs ++ j ∷ []) n ≡ weight jobs n + (8 + 9 * n + 2 * length j.after + n * sum_by step_events j.steps)
weight-push jobs j n =
    let count : length (jobs ++ j ∷ []) ≡ length jobs + 1 = length-append jobs (j ∷ []) in
    let parts : after_parts (jobs ++ j ∷ []) ≡ after_parts jobs + length j.after = sum_by_push (λ (i : JobData). length i.after) jobs j in
    let events : all_events (jobs ++ j ∷ []) ≡ all_events jobs + sum_by step_events j.steps = sum_by_push
    (λ (i : JobData). sum_by step_events i.steps) jobs j in
    let nine : 9 * (length jobs + 1) ≡ 9 * length jobs + 9 = omega arith in
    let per_job : 9 * (length jobs + 1) * n ≡ 9 * length jobs * n + 9 * n = ap (λ (x : ℕ). x * n) nine ∙ add-mul (9 * length jobs) 9 n in
    let per_event : n * (all_events jobs + sum_by step_events j.steps) ≡ n * all_events jobs + n * sum_by step_events j.steps = mul-add n
    (all_events jobs) (sum_by step_events j.steps) in
    rw (count, parts, events, per_job, per_event) (omega arith)

-- a step adds its events for each initiator
pub weight-step : (jobs : List JobData) (j : JobData) (step : Step) (n : ℕ)
    → weight (jobs ++ stepped j step ∷ []) n ≡ weight (jobs ++ j ∷ []) n + n * step_events step
weight-step jobs j step n =
    let events : sum_by step_events (j.steps ++ step ∷ []) ≡ sum_by step_events j.steps + step_events step =
    sum_by_push step_events j.steps step in
    let all : n * sum_by step_events (j.steps ++ step ∷ []) ≡ n * sum_by step_events j.steps + n * step_events step = ap
    (λ (x : ℕ). n * x) events ∙ mul-add n (sum_by step_events j.steps) (step_events step) in
    let a = weight-push jobs (stepped j step) n in
    let b = weight-push jobs j n in
    omega (arith, a, b, all)
