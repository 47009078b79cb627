-- The configuration's facts in one record, Facts: who owns which block and element, which exits start where, and the quotas.
-- All layers take these facts and do not look into the configuration again. And nothing refuses the configuration of a sound deck.
use Rattle.mv_plan.proofs.Words.{◌≡◌, ℕ, zero, suc, ◌+◌, ◌-◌, ◌*◌, ◌<◌, ◌≤◌, nat_lt, ◌&&◌, true, List, [], ◌∷◌, ◌++◌, length, map, get_or}
use Rattle.mv_plan.proofs.Words.{replicate, Some, refl, sym, ap, ◌∙◌, arith, range_with_len, eqb-true, false≢true, and_parts, length-append}
use Rattle.mv_plan.proofs.Words.{get_or-replicate, length-replicate, Setup, SetupExit, owner_of, is_exit_of, element_owner, JobData, idle}
use Rattle.mv_plan.proofs.Words.{spool_setup, end_owners, block_owners, end_exit, entered, end_for_scheduler, end_for_writer, scheduler}
use Rattle.mv_plan.proofs.Words.{writer, done, common_steps, nat_le, sum, None, if◌then◌else◌, AllByRecursion, le-leb, lt-leb, eq-eqb}
use Rattle.mv_plan.proofs.Words.{length-map-range_with_len, weight, task_budgets, all_append}
use Rattle.std.proofs.Common.{◌/◌}
use Rattle.std.proofs.lemmas.Bool.{ltb-true}
use Rattle.std.proofs.lemmas.List.{get_or-append-add}
use Rattle.mv_config.specs.Setup.{starts_from, targets_of, targets_at}
use Rattle.std.specs.Prelude.{slice_get}
use Rattle.std.specs.List.{position_from, list_all}
use Rattle.mv_config.specs.Check.{IsValid, first_limit, first_bad_owner, first_bad_exit, bad_budget, is_bad_exit, is_within, keeps}
use Rattle.mv_config.specs.declared.config.ConfigLimit.TheVariants.{Callers, Budgets, Ecbs, Exits, Targets}
use Rattle.mv_config.proofs.Chains.{all_copies}
use Rattle.mv_plan.proofs.deck.Ends.{budgets_sum}

-- a configuration of the spool for n jobs
pub record Facts (c : Setup) (n initiators : ℕ) : Type 0 where
  pub size : length c.owners ≡ 4 * n + initiators
  pub some : 1 ≤ initiators
  pub entered_owner : (j : ℕ) → j < n → owner_of c (entered j) ≡ 1
  pub done_owner : (j : ℕ) → j < n → owner_of c (done n j) ≡ 1
  pub scheduler_owner : (j : ℕ) → j < n → owner_of c (end_for_scheduler n j) ≡ 1
  pub writer_owner : (j : ℕ) → j < n → owner_of c (end_for_writer n j) ≡ writer initiators
  pub idle_owner : (i : ℕ) → i < initiators → owner_of c (idle n i) ≡ 1
  pub exit : (j : ℕ) → j < n → is_exit_of c (j + 1) (done n j) ≡ true
  pub sources : (x m : ℕ) → is_exit_of c x m ≡ true → (j : ℕ) × (j < n) × (x ≡ j + 1) × (m ≡ done n j)
  pub targets : (j : ℕ) → j < n → targets_of c (j + 1) ≡ end_for_scheduler n j ∷ end_for_writer n j ∷ []
  pub element : (m : ℕ) → element_owner c m ≡ m
  pub each : c.elements_per_caller ≡ 1
  pub latches : c.latches ≡ 8
  pub quota : c.quota ≡ 8
  pub posted : c.posted_quota ≡ 0
  pub callers : c.callers ≡ initiators + 3

pub length_ends : (w n : ℕ) → length (end_owners w n) ≡ 2 * n
length_ends w zero = refl
length_ends w (suc n) = let ih = length_ends w n in omega arith

scheduler_end : (w n j : ℕ) (rest : List ℕ) → j < n → get_or (end_owners w n ++ rest) (2 * j) 0 ≡ 1
scheduler_end w (suc n) (suc j) rest lt = grind (arith, common_steps, scheduler_end w n j rest)
scheduler_end w n j rest lt = grind (arith, common_steps)

writer_end : (w n j : ℕ) (rest : List ℕ) → j < n → get_or (end_owners w n ++ rest) (2 * j + 1) 0 ≡ w
writer_end w (suc n) (suc j) rest lt = grind (arith, common_steps, writer_end w n j rest)
writer_end w n j rest lt = grind (arith, common_steps)

-- behind a list of this length
behind : (xs ys : List ℕ) (m k i : ℕ) → length xs ≡ m → i ≡ m + k → get_or (xs ++ ys) i 0 ≡ get_or ys k 0
behind xs ys m k i e f = ap (λ l. get_or (xs ++ ys) l 0) (f ∙ ap (λ l. l + k) (sym e)) ∙ get_or-append-add xs ys k 0

abbrev ends_on : ℕ → ℕ → List ℕ
ends_on n initiators = end_owners (writer initiators) n ++ replicate initiators scheduler

-- the owners, part by part
by_parts : (n initiators : ℕ) → block_owners n initiators ≡ replicate n scheduler ++ (replicate n scheduler ++ ends_on n initiators)
by_parts n initiators = grind (arith, common_steps)

owned_by : (n initiators i k : ℕ) → get_or (replicate n scheduler ++ (replicate n scheduler ++ ends_on n initiators)) i 0 ≡ k
    → get_or (block_owners n initiators) i 0 ≡ k
owned_by n initiators i k e = ap (λ os. get_or os i 0) (by_parts n initiators) ∙ e

ones : (n j : ℕ) (rest : List ℕ) → j < n → get_or (replicate n scheduler ++ rest) j 0 ≡ 1
ones n j rest lt = grind (arith, common_steps)

module _ (n initiators : ℕ) where
  pub first_part : (j : ℕ) → j < n → get_or (block_owners n initiators) j 0 ≡ 1
  first_part j lt = owned_by n initiators j 1 (ones n j (replicate n scheduler ++ ends_on n initiators) lt)

  second_part : (j : ℕ) → j < n → get_or (block_owners n initiators) (n + j) 0 ≡ 1
  second_part j lt = grind (arith, common_steps)

  third_part : (i k o : ℕ) → i ≡ 2 * n + k → get_or (ends_on n initiators) k 0 ≡ o → get_or (block_owners n initiators) i 0 ≡ o
  third_part i k o e f = grind (arith, common_steps, owned_by, initiators, behind, scheduler, length-replicate)

  scheduler_part : (j : ℕ) → j < n → get_or (block_owners n initiators) (end_for_scheduler n j) 0 ≡ 1
  scheduler_part j lt = third_part (end_for_scheduler n j) (2 * j) 1 refl
      (scheduler_end (writer initiators) n j (replicate initiators scheduler) lt)

  pub writer_part : (j : ℕ) → j < n → get_or (block_owners n initiators) (end_for_writer n j) 0 ≡ writer initiators
  writer_part j lt = third_part (end_for_writer n j) (2 * j + 1) (writer initiators) (omega arith)
      (writer_end (writer initiators) n j (replicate initiators scheduler) lt)

  pub idle_part : (i : ℕ) → i < initiators → get_or (block_owners n initiators) (idle n i) 0 ≡ 1
  idle_part i lt = grind (arith, common_steps, third_part, behind, writer, initiators, scheduler, length_ends, get_or-replicate)

  whole : length (block_owners n initiators) ≡ 4 * n + initiators
  whole = simp (length-append, length-replicate, length_ends) (omega arith)

-- the exit at a position
exit_at : (n from count j : ℕ) → j < count → slice_get (map (end_exit n) (range_with_len from count)) j ≡ Some (end_exit n (from + j))
exit_at n from (suc count) (suc j) lt = exit_at n (from + 1) count j (omega arith) ∙ ap (λ k. Some (end_exit n k)) (omega arith)
exit_at n from count j lt = grind (arith, common_steps)

exit_there : (n j : ℕ) (xs : List SetupExit) → slice_get xs j ≡ Some (end_exit n j)
    → (nat_lt 0 (j + 1) && starts_from (done n j) (slice_get xs (j + 1 - 1))) ≡ true
exit_there n j xs e = grind (arith, common_steps)

exit_targets : (c : Setup) (n j : ℕ) → slice_get c.exits j ≡ Some (end_exit n j)
    → targets_of c (suc j) ≡ end_for_scheduler n j ∷ end_for_writer n j ∷ []
exit_targets c n j e = ap (λ x. targets_at x) e

exit_from_zero : (n count j : ℕ) → j < count → slice_get (map (end_exit n) (range_with_len 0 count)) j ≡ Some (end_exit n j)
exit_from_zero n count j lt = exit_at n 0 count j lt ∙ ap (λ k. Some (end_exit n k)) (omega arith)

next_number : (j : ℕ) → j + 1 ≡ suc j
next_number j = omega arith

-- an exit that is there is one of these
source_at : (n m from count j : ℕ) → starts_from m (slice_get (map (end_exit n) (range_with_len from count)) j) ≡ true
    → (j < count) × (m ≡ done n (from + j))
source_at n m from (suc count) (suc j) e = grind (arith, common_steps, source_at n m (from + 1) count j e)
source_at n m from count j e = grind (arith, common_steps, false≢true, eqb-true)

pub exit_source : (n m x : ℕ) → (nat_lt 0 x && starts_from m (slice_get (map (end_exit n) (range_with_len 0 n)) (x - 1))) ≡ true
    → (j : ℕ) × (j < n) × (x ≡ j + 1) × (m ≡ done n j)
exit_source n m x e = grind (arith, common_steps, and_parts, ltb-true, source_at)

by_one : (m : ℕ) → m / 1 ≡ m
by_one m = omega arith

ruleset owned_parts = (first_part, second_part, scheduler_part, writer_part, idle_part)

pub facts : (deck : List JobData) (initiators : ℕ) → 1 ≤ initiators → Facts (spool_setup deck initiators) (length deck) initiators
facts deck initiators some = grind
    (arith, common_steps, whole, owned_parts, exit_there, exit_from_zero, exit_source, next_number, exit_targets, by_one)

-- ---- nothing refuses the configuration of a sound deck

-- a number within its limits
within : (low high n : ℕ) → low ≤ n → n ≤ high → is_within low high n ≡ true
within low high n a b = rw (le-leb low n a, le-leb n high b) refl

-- ---- its limits are kept

-- one budget for each caller
pub length_budgets : (deck : List JobData) (initiators : ℕ) → length (task_budgets deck initiators) ≡ initiators + 3
length_budgets deck initiators = grind (arith, common_steps)

-- each exit has two targets
few_targets : (n from count : ℕ) → list_all (λ x. is_within 1 8 (length x.targets)) (map (end_exit n) (range_with_len from count)) ≡ true
few_targets n from zero = refl
few_targets n from (suc count) = few_targets n (from + 1) count

-- no limit is passed
limits_kept : (c : Setup) → keeps Callers c ≡ true → c.elements_per_caller ≡ 1 → c.volumes ≡ 8 → c.latches ≡ 8 → c.quota ≡ 8
    → c.posted_quota ≡ 0 → keeps Budgets c ≡ true → keeps Ecbs c ≡ true → keeps Exits c ≡ true → keeps Targets c ≡ true
    → first_limit c ≡ None
limits_kept c a e v l q p b o x t = rw (a, e, v, l, q, p, b, o, x, t) refl

-- ---- each of its owners is a caller

-- where each owner is below m, the search for a bad one finds none
all_owned : (m : ℕ) (owners : List ℕ) (i : ℕ) → AllByRecursion (λ o. o < m) owners → position_from (λ o. nat_le m o) i owners ≡ None
all_owned m [] i a = refl
all_owned m (o ∷ owners) i a = rw (lt-leb m o a.0) (all_owned m owners (i + 1) a.1)

-- the owners of the jobs' ends are callers
ends_owned : (w m n : ℕ) → 1 < m → w < m → AllByRecursion (λ o. o < m) (end_owners w n)
ends_owned w m zero a b = tt
ends_owned w m (suc n) a b = (a, (b, ends_owned w m n a b))

-- all owners are
owners_below : (n initiators : ℕ) → AllByRecursion (λ o. o < initiators + 3) (block_owners n initiators)
owners_below n initiators =
    all_append (λ o. o < initiators + 3) (replicate n scheduler ++ replicate n scheduler ++ end_owners (writer initiators) n)
    (replicate initiators scheduler)
    (all_append (λ o. o < initiators + 3) (replicate n scheduler ++ replicate n scheduler) (end_owners (writer initiators) n)
    (all_append (λ o. o < initiators + 3) (replicate n scheduler) (replicate n scheduler) (ones n) (ones n))
    (ends_owned (writer initiators) (initiators + 3) n (omega arith) (omega arith)))
    (ones initiators) where
      ones : (k : ℕ) → AllByRecursion (λ o. o < initiators + 3) (replicate k scheduler)
      ones k = all_copies (λ o. o < initiators + 3) k scheduler (omega arith)

-- ---- none of its exits is bad

good_exits : (n ecbs from count i : ℕ) → from + count ≤ n → 4 * n ≤ ecbs
    → position_from (is_bad_exit ecbs) i (map (end_exit n) (range_with_len from count)) ≡ None
good_exits n ecbs from zero i le big = refl
good_exits n ecbs from (suc count) i le big = grind (arith, common_steps, good_exits n ecbs (from + 1) count (i + 1))

-- ---- so nothing refuses it

-- nothing refuses a configuration that passes each test
none_refuses : (c : Setup) → first_limit c ≡ None → first_bad_owner c ≡ None → first_bad_exit c ≡ None → bad_budget c ≡ None → IsValid c
none_refuses c l o x b = rw (l, o, x, b) refl

module _ (deck : List JobData) (initiators : ℕ) (some : 1 ≤ initiators) (few : initiators ≤ 8)
    (light : weight deck initiators ≤ 524287) where
  -- few jobs
  jobs_few : 17 * length deck ≤ 524287
  jobs_few = grind (arith, common_steps)

  -- nothing refuses that of a deck
  pub spool_setup_is_valid : IsValid (spool_setup deck initiators)
  spool_setup_is_valid = none_refuses (spool_setup deck initiators)
      (limits_kept (spool_setup deck initiators) (within 1 16 (initiators + 3) (omega arith) (omega arith)) refl refl refl refl refl
      (eq-eqb (length (task_budgets deck initiators)) (initiators + 3) (length_budgets deck initiators))
      (le-leb (length (block_owners (length deck) initiators)) 131072 (omega (arith, (facts deck initiators some).size, jobs_few)))
      (le-leb (length (spool_setup deck initiators).exits) 32768
      (omega (arith, length-map-range_with_len (end_exit (length deck)) 0 (length deck), jobs_few)))
      (few_targets (length deck) 0 (length deck)))
      (all_owned (initiators + 3) (block_owners (length deck) initiators) 0 (owners_below (length deck) initiators))
      (good_exits (length deck) (length (block_owners (length deck) initiators)) 0 (length deck) 1 (omega arith)
      (omega (arith, (facts deck initiators some).size)))
      (ap (λ b. if b then Some (sum (task_budgets deck initiators)) else None)
      (lt-leb (suc 524287) (sum (task_budgets deck initiators)) (omega (arith, budgets_sum deck initiators))))

  -- a configuration with these parts
  of_parts : (k e v l q p : ℕ) (b o : List ℕ) (x : List SetupExit) → k ≡ initiators + 3 → e ≡ 1 → v ≡ 8 → l ≡ 8 → q ≡ 8 → p ≡ 0
      → b ≡ task_budgets deck initiators → o ≡ block_owners (length deck) initiators
      → x ≡ map (end_exit (length deck)) (range_with_len 0 (length deck))
      → IsValid (record {
        callers = k;
        elements_per_caller = e;
        volumes = v;
        latches = l;
        quota = q;
        posted_quota = p;
        budgets = b;
        owners = o;
        exits = x;
      })
  of_parts k e v l q p b o x ek ee ev el eq ep eb eo ex = rw (ek, ee, ev, el, eq, ep, eb, eo, ex) spool_setup_is_valid

  -- nor one that is it by its parts
  pub not_refused : (c : Setup) (n : ℕ) → n ≡ length deck → c.callers ≡ initiators + 3 → c.elements_per_caller ≡ 1 → c.volumes ≡ 8
      → c.latches ≡ 8 → c.quota ≡ 8 → c.posted_quota ≡ 0 → c.budgets ≡ task_budgets deck initiators
      → c.owners ≡ block_owners n initiators → c.exits ≡ map (end_exit n) (range_with_len 0 n) → IsValid c
  not_refused c n jobs ek ee ev el eq ep eb eo ex =
      of_parts c.callers c.elements_per_caller c.volumes c.latches c.quota c.posted_quota c.budgets c.owners c.exits ek ee ev el eq ep eb
      (eo ∙ ap (λ m. block_owners m initiators) jobs) (ex ∙ ap (λ m. map (end_exit m) (range_with_len 0 m)) jobs)
