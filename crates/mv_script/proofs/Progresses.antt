-- What one more statement adds, and that a script which can be run stays one.
use Rattle.std.proofs.Common.{◌≡◌, ℕ, suc, ◌+◌, ◌<◌, ◌≤◌, Bool, true, false, not, ◌||◌, List, [], ◌∷◌, ◌++◌, length, map, Option, Some}
use Rattle.std.proofs.Common.{None, refl, sym, ap, subst, ◌∙◌, arith, append_assoc}
use Rattle.std.specs.Prelude.{nat_lt, nat_le, sum, count_by}
use Rattle.std.specs.List.{AllByRecursion, list_any}
use Rattle.std.proofs.lemmas.List.{append-nil, length-append, map-append}
use Rattle.std.proofs.lemmas.List.Elements.{filter_map-append}
use Rattle.std.proofs.lemmas.List.Sums.{fold_push, sum_by-append, sum_by-cons}
use Rattle.std.specs.Option.{option_or}
use Rattle.mv_line.specs.Byte.{is_within}
use Rattle.mv_latch.proofs.Joined.{same_any, some_any}
use Rattle.mv_machine.proofs.Lists.{all_append}
use Rattle.mv_config.specs.Limits.{events_limit}
use Rattle.mv_config.specs.Setup.{Setup, SetupExit}
use Rattle.mv_calls.specs.declared.table.Table.{Table}
use Rattle.mv_calls.specs.Table.{IsTableOf}
use Rattle.mv_scriptline.specs.declared.call.Call.{Call}
use Rattle.mv_scriptline.specs.declared.statement.Statement.{Statement}
use Rattle.mv_scriptline.specs.declared.statement.Statement.TheVariants as statement
use Rattle.mv_scriptline.specs.Sizes.{SizesFace}
use Rattle.mv_script.specs.Costs.{cost, costs_of}
use Rattle.mv_script.specs.Fault.{is_script, is_exit, is_task, is_end, obtain_meant, is_no_obtain}
use Rattle.mv_scriptline.specs.Limits.{most_tasks, most_ecbs, most_exits, most_targets, most_calls}
use Rattle.mv_script.specs.Reading.{Progress, progress_of, with_statement, sizes_in, setup_in, budgets_in, IsSoundSoFar}
use Rattle.mv_script.specs.Script.{task_count, owner_in, owners_of, exit_in, exits_of, with_call, tasks_behind, tasks_of, last_task}
use Rattle.mv_script.specs.Script.{is_obtain, table_in, table_of}
use Rattle.mv_script.specs.Sound.{IsEcb, HasGoodNumbers, IsObtainOf, IfThere, IsSoundCall, AreSoundCalls, IsSoundTask, IsSoundExit}
use Rattle.mv_script.specs.Table.{uses_any}

-- ---- what one more statement adds

-- the tasks that are stated are those of the first SCRIPT
same_count : (earlier : List Statement) (s : Statement) → is_script s ≡ false → task_count (earlier ++ s ∷ []) ≡ task_count earlier
same_count [] (statement.Script t) e = absurd cc
same_count [] (statement.Ecb owner) e = refl
same_count [] (statement.Exit source targets) e = refl
same_count [] (statement.Table t) e = refl
same_count [] statement.Task e = refl
same_count [] (statement.Call c) e = refl
same_count [] statement.End e = refl
same_count (statement.Script t ∷ earlier) s e = refl
same_count (statement.Ecb owner ∷ earlier) s e = same_count earlier s e
same_count (statement.Exit source targets ∷ earlier) s e = same_count earlier s e
same_count (statement.Table t ∷ earlier) s e = same_count earlier s e
same_count (statement.Task ∷ earlier) s e = same_count earlier s e
same_count (statement.Call c ∷ earlier) s e = same_count earlier s e
same_count (statement.End ∷ earlier) s e = same_count earlier s e

-- no block, one more block
same_owners : (earlier : List Statement) (s : Statement) → owner_in s ≡ None → owners_of (earlier ++ s ∷ []) ≡ owners_of earlier
same_owners earlier s e = filter_map-append owner_in earlier (s ∷ []) ∙ rw e (append-nil (owners_of earlier))

-- no exit
same_exits : (earlier : List Statement) (s : Statement) → exit_in s ≡ None → exits_of (earlier ++ s ∷ []) ≡ exits_of earlier
same_exits earlier s e = filter_map-append exit_in earlier (s ∷ []) ∙ rw e (append-nil (exits_of earlier))

-- no table
same_table : (earlier : List Statement) (s : Statement) → table_in s ≡ None → table_of (earlier ++ s ∷ []) ≡ table_of earlier
same_table [] s e = rw e refl
same_table (r ∷ earlier) s e = ap (option_or (table_in r)) (same_table earlier s e)

-- the first table
new_table : (earlier : List Statement) (t : Table) → table_of earlier ≡ None → table_of (earlier ++ statement.Table t ∷ []) ≡ Some t
new_table [] t e = refl
new_table (r ∷ earlier) t e = go (table_in r) e (λ none. new_table earlier t none) where
  go : (o : Option Table) → option_or o (table_of earlier) ≡ None
      → (table_of earlier ≡ None → table_of (earlier ++ statement.Table t ∷ []) ≡ Some t)
      → option_or o (table_of (earlier ++ statement.Table t ∷ [])) ≡ Some t
  go None e more = more e
  go (Some u) e more = absurd (cc e)

-- the tasks behind one more statement
tasks_push : (earlier : List Statement) (s : Statement) → tasks_of (earlier ++ s ∷ []) ≡ tasks_behind (tasks_of earlier) s
tasks_push earlier s = fold_push tasks_behind [] earlier s

-- a progress by its parts
abbrev of_parts : Bool → ℕ → List ℕ → Bool → List SetupExit → Option Table → Bool → List (List Call) → Bool → Progress
of_parts script stated owners exit exits table task tasks ended = record {
  script = script;
  stated = stated;
  owners = owners;
  exit = exit;
  exits = exits;
  table = table;
  task = task;
  tasks = tasks;
  ended = ended;
}

-- two that are the same in each part
same_progress : {a b : Bool} {c d : ℕ} {e f : List ℕ} {g h : Bool} {i j : List SetupExit} {y z : Option Table} {k l : Bool}
    {m n : List (List Call)} {o p : Bool}
    → a ≡ b → c ≡ d → e ≡ f → g ≡ h → i ≡ j → y ≡ z → k ≡ l → m ≡ n → o ≡ p → of_parts a c e g i y k m o ≡ of_parts b d f h j z l n p
same_progress q r s t u x v w y = rw (q, r, s, t, u, x, v, w, y) refl

-- one more block
pub one_ecb : (earlier : List Statement) (owner : ℕ)
    → progress_of (earlier ++ statement.Ecb owner ∷ []) ≡ with_statement (progress_of earlier) (statement.Ecb owner)
one_ecb earlier owner =
    let s : Statement = statement.Ecb owner in
    same_progress (same_any is_script earlier s refl) (same_count earlier s refl) (filter_map-append owner_in earlier (s ∷ []))
    (same_any is_exit earlier s refl) (same_exits earlier s refl) (same_table earlier s refl) (same_any is_task earlier s refl)
    (tasks_push earlier s)
    (same_any is_end earlier s refl)

-- one more exit
pub one_exit : (earlier : List Statement) (source : ℕ) (targets : List ℕ)
    → progress_of (earlier ++ statement.Exit source targets ∷ []) ≡ with_statement (progress_of earlier) (statement.Exit source targets)
one_exit earlier source targets =
    let s : Statement = statement.Exit source targets in
    same_progress (same_any is_script earlier s refl) (same_count earlier s refl) (same_owners earlier s refl)
    (some_any is_exit earlier s refl) (filter_map-append exit_in earlier (s ∷ [])) (same_table earlier s refl)
    (same_any is_task earlier s refl) (tasks_push earlier s)
    (same_any is_end earlier s refl)

-- the table
pub one_table : (earlier : List Statement) (t : Table) → table_of earlier ≡ None
    → progress_of (earlier ++ statement.Table t ∷ []) ≡ with_statement (progress_of earlier) (statement.Table t)
one_table earlier t none =
    let s : Statement = statement.Table t in
    same_progress (same_any is_script earlier s refl) (same_count earlier s refl) (same_owners earlier s refl)
    (same_any is_exit earlier s refl) (same_exits earlier s refl) (new_table earlier t none) (same_any is_task earlier s refl)
    (tasks_push earlier s) (same_any is_end earlier s refl)

-- one more task
pub one_task : (earlier : List Statement)
    → progress_of (earlier ++ statement.Task ∷ []) ≡ with_statement (progress_of earlier) statement.Task
one_task earlier =
    let s : Statement = statement.Task in
    same_progress (same_any is_script earlier s refl) (same_count earlier s refl) (same_owners earlier s refl)
    (same_any is_exit earlier s refl) (same_exits earlier s refl) (same_table earlier s refl) (some_any is_task earlier s refl)
    (tasks_push earlier s)
    (same_any is_end earlier s refl)

-- one more call
pub one_call : (earlier : List Statement) (c : Call)
    → progress_of (earlier ++ statement.Call c ∷ []) ≡ with_statement (progress_of earlier) (statement.Call c)
one_call earlier c =
    let s : Statement = statement.Call c in
    same_progress (same_any is_script earlier s refl) (same_count earlier s refl) (same_owners earlier s refl)
    (same_any is_exit earlier s refl) (same_exits earlier s refl) (same_table earlier s refl) (same_any is_task earlier s refl)
    (tasks_push earlier s)
    (same_any is_end earlier s refl)

-- the end
pub the_end : (earlier : List Statement)
    → progress_of (earlier ++ statement.End ∷ []) ≡ with_statement (progress_of earlier) statement.End
the_end earlier =
    let s : Statement = statement.End in
    same_progress (same_any is_script earlier s refl) (same_count earlier s refl) (same_owners earlier s refl)
    (same_any is_exit earlier s refl) (same_exits earlier s refl) (same_table earlier s refl) (same_any is_task earlier s refl)
    (tasks_push earlier s)
    (some_any is_end earlier s refl)

-- ---- the last task, with one more call

-- as many tasks
pub same_length : (tasks : List (List Call)) (c : Call) → length (with_call tasks c) ≡ length tasks
same_length [] c = refl
same_length (calls ∷ []) c = refl
same_length (calls ∷ other ∷ tasks) c = ap suc (same_length (other ∷ tasks) c)

-- what they cost
pub more_cost : (k : Setup) (tasks : List (List Call)) (c : Call) → 0 < length tasks
    → sum (map (costs_of k) (with_call tasks c)) ≡ sum (map (costs_of k) tasks) + cost k c
more_cost k [] c lt = absurd (omega arith)
more_cost k (calls ∷ []) c lt =
    let e : costs_of k (calls ++ c ∷ []) ≡ costs_of k calls + costs_of k (c ∷ []) = sum_by-append (cost k) calls (c ∷ []) in
    omega (arith, e)
more_cost k (calls ∷ other ∷ tasks) c lt =
    sum_by-cons (λ (n : ℕ). n) (costs_of k calls) (map (costs_of k) (with_call (other ∷ tasks) c))
    ∙ step (costs_of k calls) (sum (map (costs_of k) (with_call (other ∷ tasks) c))) (sum (map (costs_of k) (other ∷ tasks))) (cost k c)
    (more_cost k (other ∷ tasks) c (omega arith))
    ∙ ap (λ (m : ℕ). m + cost k c) (sym (sum_by-cons (λ (n : ℕ). n) (costs_of k calls) (map (costs_of k) (other ∷ tasks)))) where
      step : (a x y d : ℕ) → x ≡ y + d → a + x ≡ (a + y) + d
      step a x y d e = omega (arith, e)

-- calls that may stand so, with one more
calls_push : (z : SizesFace) (before calls : List Call) (c : Call) → AreSoundCalls z before calls → IsSoundCall z (before ++ calls) c
    → AreSoundCalls z before (calls ++ c ∷ [])
calls_push z before [] c h s = (subst (λ (x : List Call). IsSoundCall z x c) (append-nil before) s, tt)
calls_push z before (d ∷ calls) c h s = (
  h.0,
  calls_push z (before ++ d ∷ []) calls c h.1
      (subst (λ (x : List Call). IsSoundCall z x c) (sym (append_assoc before (d ∷ []) calls)) s),
)

-- a task with one more
task_push : (z : SizesFace) (calls : List Call) (c : Call) → IsSoundTask z calls → length calls < most_calls → IsSoundCall z calls c
    → IsSoundTask z (calls ++ c ∷ [])
task_push z calls c h lt s = record {
  few = let e : length (calls ++ c ∷ []) ≡ length calls + 1 = length-append calls (c ∷ []) in omega (arith, e);
  sound = calls_push z [] calls c h.sound s;
}

-- the tasks
tasks_more : (z : SizesFace) (tasks : List (List Call)) (c : Call) → AllByRecursion (IsSoundTask z) tasks
    → length (last_task tasks) < most_calls → IsSoundCall z (last_task tasks) c → AllByRecursion (IsSoundTask z) (with_call tasks c)
tasks_more z [] c h lt s = tt
tasks_more z (calls ∷ []) c h lt s = (task_push z calls c h.0 lt s, tt)
tasks_more z (calls ∷ other ∷ tasks) c h lt s = (h.0, tasks_more z (other ∷ tasks) c h.1 lt s)

-- ---- a script that can be run stays one

-- nothing costs nothing
no_tasks : (k : Setup) (tasks : List (List Call)) → nat_lt 0 (length tasks) ≡ false → tasks ≡ []
no_tasks k [] e = refl
no_tasks k (calls ∷ tasks) e = absurd (grind arith)

no_exits : (exits : List SetupExit) → nat_lt 0 (length exits) ≡ false → exits ≡ []
no_exits [] e = refl
no_exits (x ∷ exits) e = absurd (grind arith)

positive : (n : ℕ) → 1 ≤ n → true ≡ nat_lt 0 n
positive n le = grind arith

pub is_positive : (n : ℕ) → nat_lt 0 n ≡ true → 1 ≤ n
is_positive n e = grind arith

-- before any line and behind SCRIPT: at most so many tasks are stated, and nothing else
bare : (script : Bool) (t : ℕ) → t ≤ most_tasks → script ≡ nat_lt 0 t → IsSoundSoFar (of_parts script t [] false [] None false [] false)
bare script t few stated = record {
  few = few;
  script = stated;
  few_ecbs = omega arith;
  owners = tt;
  few_exits = omega arith;
  exits = tt;
  exit = refl;
  table = tt;
  few_tasks = omega arith;
  tasks = tt;
  task = refl;
  light = omega arith;
  ended = λ e. absurd cc;
}

pub sound_at_first : IsSoundSoFar (progress_of [])
sound_at_first = bare false 0 (omega arith) refl

pub sound_script : (t : ℕ) → 1 ≤ t → t ≤ most_tasks → IsSoundSoFar (progress_of (statement.Script t ∷ []))
sound_script t some few = bare true t few (positive t some)

module _ (p : Progress) (sound : IsSoundSoFar p) where
  -- no task has begun
  pub without_tasks : p.task ≡ false → p.tasks ≡ []
  without_tasks e = no_tasks (setup_in p []) p.tasks (sym sound.task ∙ e)

  -- behind an ECB
  pub sound_ecb : (owner : ℕ) → p.exit ≡ false → p.table ≡ None → p.task ≡ false → length p.owners < most_ecbs → owner < p.stated
      → IsSoundSoFar (with_statement p (statement.Ecb owner))
  sound_ecb owner exit table task lt good =
      let tasks : p.tasks ≡ [] = without_tasks task in
      let exits : p.exits ≡ [] = no_exits p.exits (sym sound.exit ∙ exit) in
      let count : length (p.owners ++ owner ∷ []) ≡ length p.owners + 1 = length-append p.owners (owner ∷ []) in
      record {
        few = sound.few;
        script = sound.script;
        few_ecbs = omega (arith, count, lt);
        owners = all_append (λ (o : ℕ). o < p.stated) p.owners (owner ∷ []) sound.owners (good, tt);
        few_exits = sound.few_exits;
        exits = subst (λ (x : List SetupExit). AllByRecursion (IsSoundExit (sizes_in (with_statement p (statement.Ecb owner)))) x)
            (sym exits) tt;
        exit = sound.exit;
        table = subst (λ (o : Option Table). IfThere (IsTableOf (setup_in (with_statement p (statement.Ecb owner)) [])) o) (sym table) tt;
        few_tasks = sound.few_tasks;
        tasks = subst (λ (x : List (List Call)). AllByRecursion (IsSoundTask (sizes_in (with_statement p (statement.Ecb owner)))) x)
            (sym tasks) tt;
        task = sound.task;
        light = subst (λ (x : List (List Call)).
            sum (map (costs_of (setup_in (with_statement p (statement.Ecb owner)) [])) x) ≤ events_limit) (sym tasks) (omega arith);
        ended = sound.ended;
      }

  -- behind an EXIT
  pub sound_exit : (source : ℕ) (targets : List ℕ) → p.table ≡ None → p.task ≡ false → length p.exits < most_exits
      → IsEcb (sizes_in p) source → 1 ≤ length targets → length targets ≤ most_targets → AllByRecursion (IsEcb (sizes_in p)) targets
      → list_any (λ target. nat_le target source) targets ≡ false
      → IsSoundSoFar (with_statement p (statement.Exit source targets))
  sound_exit source targets table task lt s some few all up =
      let tasks : p.tasks ≡ [] = without_tasks task in
      let x : SetupExit = record { source = source; targets = targets } in
      let count : length (p.exits ++ x ∷ []) ≡ length p.exits + 1 = length-append p.exits (x ∷ []) in
      let good : IsSoundExit (sizes_in p) x = record { source = s; some = some; few = few; up = rising targets all up } in
      record {
        few = sound.few;
        script = sound.script;
        few_ecbs = sound.few_ecbs;
        owners = sound.owners;
        few_exits = omega (arith, count, lt);
        exits = all_append (IsSoundExit (sizes_in p)) p.exits (x ∷ []) sound.exits (good, tt);
        exit = positive (length (p.exits ++ x ∷ [])) (omega (arith, count));
        table = subst (λ (o : Option Table). IfThere (IsTableOf (setup_in (with_statement p (statement.Exit source targets)) [])) o)
            (sym table) tt;
        few_tasks = sound.few_tasks;
        tasks = sound.tasks;
        task = sound.task;
        light = subst (λ (y : List (List Call)). sum (map (costs_of (setup_in (with_statement p (statement.Exit source targets)) [])) y)
            ≤ events_limit) (sym tasks) (omega arith);
        ended = sound.ended;
      }
    where
      above : (target : ℕ) (b : Bool) → (nat_le target source || b) ≡ false → source < target
      above target b e = grind arith

      others : (target : ℕ) (b : Bool) → (nat_le target source || b) ≡ false → b ≡ false
      others target b e = grind arith

      rising : (ts : List ℕ) → AllByRecursion (IsEcb (sizes_in p)) ts → list_any (λ target. nat_le target source) ts ≡ false
          → AllByRecursion (λ target. IsEcb (sizes_in p) target × (source < target)) ts
      rising [] h e = tt
      rising (t ∷ ts) h e = (
        (h.0, above t (list_any (λ target. nat_le target source) ts) e),
        rising ts h.1 (others t (list_any (λ target. nat_le target source) ts) e),
      )

  -- behind a TABLE, which the configuration has
  pub sound_table : (t : Table) → p.task ≡ false → IsTableOf (setup_in p []) t → IsSoundSoFar (with_statement p (statement.Table t))
  sound_table t task is =
      let q : Progress = with_statement p (statement.Table t) in
      record {
        few = sound.few;
        script = sound.script;
        few_ecbs = sound.few_ecbs;
        owners = sound.owners;
        few_exits = sound.few_exits;
        exits = same_blocks p.exits sound.exits;
        exit = sound.exit;
        table = is;
        few_tasks = sound.few_tasks;
        tasks = subst (λ (x : List (List Call)). AllByRecursion (IsSoundTask (sizes_in q)) x) (sym (without_tasks task)) tt;
        task = sound.task;
        light = sound.light;
        ended = sound.ended;
      }
    where
      -- exits name blocks, and not the table
      same_blocks : (exits : List SetupExit) → AllByRecursion (IsSoundExit (sizes_in p)) exits
          → AllByRecursion (IsSoundExit (sizes_in (with_statement p (statement.Table t)))) exits
      same_blocks [] h = tt
      same_blocks (x ∷ exits) h = (
        record { source = h.0.source; some = h.0.some; few = h.0.few; up = h.0.up },
        same_blocks exits h.1,
      )

  -- a task that has made no call costs nothing
  pub same_cost : sum (map (costs_of (setup_in p [])) (p.tasks ++ [] ∷ [])) ≡ sum (budgets_in p)
  same_cost =
      let e : map (costs_of (setup_in p [])) (p.tasks ++ [] ∷ []) ≡ budgets_in p ++ 0 ∷ [] = map-append (costs_of (setup_in p [])) p.tasks
      ([] ∷ []) in
      ap sum e ∙ sum_by-append (λ (n : ℕ). n) (budgets_in p) (0 ∷ []) ∙ omega arith

  -- behind a TASK
  pub sound_task : length p.tasks < p.stated → p.ended ≡ false → IsSoundSoFar (with_statement p statement.Task)
  sound_task lt going =
      let count : length (p.tasks ++ [] ∷ []) ≡ length p.tasks + 1 = length-append p.tasks ([] ∷ []) in
      record {
        few = sound.few;
        script = sound.script;
        few_ecbs = sound.few_ecbs;
        owners = sound.owners;
        few_exits = sound.few_exits;
        exits = sound.exits;
        exit = sound.exit;
        table = sound.table;
        few_tasks = omega (arith, count, lt);
        tasks = all_append (IsSoundTask (sizes_in p)) p.tasks ([] ∷ []) sound.tasks (record { few = omega arith; sound = tt }, tt);
        task = positive (length (p.tasks ++ [] ∷ [])) (omega (arith, count));
        light = omega (arith, same_cost, sound.light);
        ended = λ e. absurd (cc (going, e));
      }

  no_obtain : (calls : List Call) (m : Option ℕ) → is_no_obtain calls m ≡ false → IfThere (IsObtainOf calls) m
  no_obtain calls None e = tt
  no_obtain calls (Some k) e = (low (count_by is_obtain calls) k e, high (count_by is_obtain calls) k e) where
    low : (n k : ℕ) → not (is_within 1 n k) ≡ false → 1 ≤ k
    low n k e = grind arith

    high : (n k : ℕ) → not (is_within 1 n k) ≡ false → k ≤ n
    high n k e = grind arith

  -- what the calls cost with one more
  pub call_cost : (c : Call) → p.task ≡ true
      → sum (budgets_in (with_statement p (statement.Call c))) ≡ sum (budgets_in p) + cost (setup_in p []) c
  call_cost c task = more_cost (setup_in p []) p.tasks c (is_positive (length p.tasks) (sym sound.task ∙ task))

  -- behind a call
  pub sound_call : (c : Call) → p.task ≡ true → p.ended ≡ false → length (last_task p.tasks) < most_calls
      → HasGoodNumbers (sizes_in p) c → is_no_obtain (last_task p.tasks) (obtain_meant c) ≡ false → uses_any p.table c ≡ false
      → sum (budgets_in p) + cost (setup_in p []) c ≤ events_limit → IsSoundSoFar (with_statement p (statement.Call c))
  sound_call c task going lt good obtain spares light =
      let count : length (with_call p.tasks c) ≡ length p.tasks = same_length p.tasks c in
      record {
        few = sound.few;
        script = sound.script;
        few_ecbs = sound.few_ecbs;
        owners = sound.owners;
        few_exits = sound.few_exits;
        exits = sound.exits;
        exit = sound.exit;
        table = sound.table;
        few_tasks = omega (arith, count, sound.few_tasks);
        tasks = tasks_more (sizes_in p) p.tasks c sound.tasks lt
            (record { numbers = good; obtain = no_obtain (last_task p.tasks) (obtain_meant c) obtain; spares = spares });
        task = sound.task ∙ ap (λ (n : ℕ). nat_lt 0 n) (sym count);
        light = omega (arith, call_cost c task, light);
        ended = λ e. absurd (cc (going, e));
      }

  -- behind END
  pub sound_end : p.stated ≤ length p.tasks → IsSoundSoFar (with_statement p statement.End)
  sound_end le = record {
    few = sound.few;
    script = sound.script;
    few_ecbs = sound.few_ecbs;
    owners = sound.owners;
    few_exits = sound.few_exits;
    exits = sound.exits;
    exit = sound.exit;
    table = sound.table;
    few_tasks = sound.few_tasks;
    tasks = sound.tasks;
    task = sound.task;
    light = sound.light;
    ended = λ e. omega (arith, le, sound.few_tasks);
  }
