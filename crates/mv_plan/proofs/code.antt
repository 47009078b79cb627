-- What the loops of the code need of lists: sums over what is left of one, for events and parts; and the owners and exits in the order in
-- which they are listed.
use Rattle.mv_plan.proofs.Words.{◌≡◌, ℕ, suc, ◌+◌, ◌<◌, List, ◌∷◌, length, map, get_or, ap, ◌∙◌, arith, sum_by-cons, JobData, job_data, ◌-◌}
use Rattle.mv_plan.proofs.Words.{Step, step_events, drop, sum_by, common_steps, zero, ◌*◌, [], ◌++◌, replicate, refl, sym, append_assoc}
use Rattle.mv_plan.proofs.Words.{range_with_len, length-append, length-replicate, exit_of, end_owners, block_owners, end_exit, scheduler}
use Rattle.mv_plan.proofs.Words.{writer, end_for_scheduler, end_for_writer, take, done}
use Rattle.mv_deck.specs.Weight.{all_events, after_parts}
use Rattle.mv_plan.specs.SpoolSetup.{task_budgets}
use Rattle.mv_deck.specs.declared.deck.Job.{Job}
use Rattle.std.proofs.lemmas.List.{take_all, map-append}
use Rattle.std.proofs.lemmas.List.FromFn.{map-range_with_len_more}
use Rattle.mv_config.specs.declared.config.Exit.{Exit}
use Rattle.mv_plan.proofs.deck.{length_ends}

-- two ways to write a place
next_place : (i : ℕ) → suc (i + 1) ≡ suc i + 1
next_place i = omega arith

-- the first of those that are left, and those behind it
pub sum_left : {X : Type 0} (f : X → ℕ) (xs : List X) (i : ℕ) (d : X) → i < length xs
    → sum_by f (drop i xs) ≡ f (get_or xs i d) + sum_by f (drop (i + 1) xs)
sum_left f (x ∷ xs) (suc i) d lt = sum_left f xs i d (omega arith) ∙ ap (λ k. f (get_or xs i d) + sum_by f (drop k (x ∷ xs))) (next_place i)
sum_left f xs i d lt = grind (arith, common_steps, sum_by-cons)

-- the same of what each stands for
pub sum_left_of : {X Y : Type 0} (f : Y → ℕ) (g : X → Y) (xs : List X) (i : ℕ) (d : X) → i < length xs
    → sum_by f (map g (drop i xs)) ≡ f (g (get_or xs i d)) + sum_by f (map g (drop (i + 1) xs))
sum_left_of f g (x ∷ xs) (suc i) d lt =
    sum_left_of f g xs i d (omega arith) ∙ ap (λ k. f (g (get_or xs i d)) + sum_by f (map g (drop k (x ∷ xs)))) (next_place i)
sum_left_of f g xs i d lt = grind (arith, common_steps, sum_by-cons)

-- the events of steps
pub steps_left : (xs : List Step) (i : ℕ) (d : Step) → i < length xs
    → sum_by step_events (drop i xs) ≡ step_events (get_or xs i d) + sum_by step_events (drop (i + 1) xs)
steps_left xs i d lt = sum_left step_events xs i d lt

-- the events of jobs
pub events_left : (xs : List Job) (i : ℕ) (d : Job) → i < length xs
    → all_events (map job_data (drop i xs)) ≡ sum_by step_events (get_or xs i d).steps.items + all_events (map job_data (drop (i + 1) xs))
events_left xs i d lt = sum_left_of (λ (j : JobData). sum_by step_events j.steps) job_data xs i d lt

-- the parts of jobs
pub parts_left : (xs : List Job) (i : ℕ) (d : Job) → i < length xs
    → after_parts (map job_data (drop i xs)) ≡ length (get_or xs i d).after.items + after_parts (map job_data (drop (i + 1) xs))
parts_left xs i d lt = sum_left_of (λ (j : JobData). length j.after) job_data xs i d lt

-- ---- owners and exits

-- one more job's two ends
ends_more : (w n : ℕ) → end_owners w n ++ scheduler ∷ w ∷ [] ≡ end_owners w (suc n)
ends_more w zero = refl
ends_more w (suc n) = ap (λ os. scheduler ∷ w ∷ os) (ends_more w n)

-- the owners of the blocks in front of the idle ones, for so many jobs' ends
abbrev pub front_owners : ℕ → ℕ → ℕ → List ℕ
front_owners n w k = replicate n scheduler ++ replicate n scheduler ++ end_owners w k

-- one more job's owners
pub owners_more : (n w k : ℕ) (old mid new : List ℕ) → mid ≡ old ++ scheduler ∷ [] → new ≡ mid ++ w ∷ []
    → old ≡ front_owners n w k → new ≡ front_owners n w (k + 1)
owners_more n w k old mid new e f g = grind (arith, common_steps, append_assoc, scheduler, ends_more)

-- how many these are
length_front : (n w k : ℕ) → length (front_owners n w k) ≡ 2 * n + 2 * k
length_front n w k = grind (arith, common_steps, scheduler, length-append, length-replicate, length_ends)

-- and then the owners of the idle blocks
pub owners_all : (n initiators k size m : ℕ) (old new : List ℕ) → new ≡ take size old ++ replicate (size - m) scheduler
    → m ≡ length old → size ≡ 4 * n + initiators → k ≡ n → old ≡ front_owners n (writer initiators) k
    → new ≡ block_owners n initiators
owners_all n initiators k size m old new e f g h o = grind (arith, common_steps, length_front, writer, scheduler, take_all)

-- the budgets, one behind the other
pub budgets_all : (jobs : List JobData) (n initiators parts events size m : ℕ) (none one two most all : List ℕ)
    → none ≡ [] → one ≡ none ++ n ∷ [] → two ≡ one ++ (5 * n + 2 * n * initiators + 2 * parts + 4 * initiators) ∷ []
    → most ≡ take size two ++ replicate (size - m) (5 + 7 * n + events) → all ≡ most ++ (2 * n) ∷ []
    → m ≡ length two → size ≡ initiators + 2 → n ≡ length jobs → parts ≡ after_parts jobs → events ≡ all_events jobs
    → all ≡ task_budgets jobs initiators
budgets_all jobs n initiators parts events size m none one two most all a b c d e f g h p v =
    e ∙ ap (λ l. l ++ (2 * n) ∷ []) resized
    ∙ (λ i. h i ∷ (5 * h i + 2 * h i * initiators + 2 * p i + 4 * initiators)
    ∷ (replicate initiators (5 + 7 * h i + v i) ++ (2 * h i) ∷ [])) where
      scheduled : ℕ
      scheduled = 5 * n + 2 * n * initiators + 2 * parts + 4 * initiators

      first : two ≡ n ∷ scheduled ∷ []
      first = c ∙ ap (λ l. l ++ scheduled ∷ []) (b ∙ ap (λ l. l ++ n ∷ []) a)

      taken : take size two ≡ two
      taken = let two_first = ap length first in take_all size two (omega arith)

      left : size - m ≡ initiators
      left = let two_first = ap length first in omega arith

      resized : most ≡ n ∷ scheduled ∷ replicate initiators (5 + 7 * n + events)
      resized = d ∙ ap (λ k. take size two ++ replicate k (5 + 7 * n + events)) left
          ∙ ap (λ l. l ++ replicate initiators (5 + 7 * n + events)) (taken ∙ first)

-- one more job's exit
pub exits_more : (n j : ℕ) (old new : List Exit) (x : Exit) → new ≡ old ++ x ∷ []
    → map exit_of old ≡ map (end_exit n) (range_with_len 0 j) → x.source ≡ done n j
    → x.targets.items ≡ end_for_scheduler n j ∷ end_for_writer n j ∷ []
    → map exit_of new ≡ map (end_exit n) (range_with_len 0 (j + 1))
exits_more n j old new x e f source targets =
    ap (map exit_of) e ∙ map-append exit_of old (x ∷ []) ∙ ap (λ xs. xs ++ exit_of x ∷ []) f
    ∙ ap (λ y. map (end_exit n) (range_with_len 0 j) ++ y ∷ []) same
    ∙ sym (map-range_with_len_more (end_exit n) 0 j j (let q : 0 + j ≡ j = omega arith in q)) where
      same : exit_of x ≡ end_exit n j
      same = grind (arith, common_steps)
