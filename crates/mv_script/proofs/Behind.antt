-- The reader behind one more statement that has no fault.
use Rattle.std.proofs.Common.{◌≡◌, ℕ, ◌+◌, ◌-◌, ◌<◌, ◌≤◌, Bool, true, false, cond, not, ◌||◌, List, [], ◌∷◌, ◌++◌, length, map, replicate}
use Rattle.std.proofs.Common.{Option, Some, None, refl, sym, ap, subst, ◌∙◌, arith}
use Rattle.std.specs.Prelude.{nat_lt, nat_le, sum, is_some, count_by}
use Rattle.std.proofs.lemmas.List.{append-nil, map-append}
use Rattle.std.proofs.lemmas.List.Sums.{sum_by-append, sum_by_push}
use Rattle.mv_config.specs.Limits.{events_limit}
use Rattle.mv_config.specs.Setup.{Setup, SetupExit}
use Rattle.mv_calls.specs.declared.table.Table.{Table}
use Rattle.mv_calls.specs.Table.{IsTableOf}
use Rattle.mv_calls.proofs.TableFacts.{can_have_is}
use Rattle.mv_scriptline.specs.declared.call.Call.{Call}
use Rattle.mv_scriptline.specs.declared.statement.Statement.{Statement}
use Rattle.mv_scriptline.specs.declared.statement.Statement.TheVariants as statement
use Rattle.mv_script.specs.Costs.{cost, costs_of, script_setup}
use Rattle.mv_script.specs.Fault.{is_script, has_script, has_exit, has_table, has_task, has_end, is_out_of_order, leads_down}
use Rattle.mv_script.specs.Fault.{uses_table, is_bad_table}
use Rattle.mv_script.specs.Fault.{is_too_costly, is_miscounted, lacks_obtain, kinds_behind, obtain_meant, is_no_obtain}
use Rattle.mv_scriptline.specs.Limits.{most_tasks, most_ecbs, most_exits, most_calls}
use Rattle.mv_script.specs.Reading.{Progress, progress_of, with_statement, setup_in, budgets_in, IsSoundSoFar, Notes, open_task}
use Rattle.mv_script.specs.Reading.{HasCosts, IsAsFar, Stands}
use Rattle.mv_script.specs.Script.{task_count, owners_of, exits_of, tasks_of, with_call, last_task, budgets_of, sizes_behind, is_obtain}
use Rattle.mv_script.specs.Sound.{IsGoodStatement}
use Rattle.mv_script.specs.Table.{uses_any}
use Rattle.mv_latch.proofs.Joined.{same_any}
use Rattle.mv_script.proofs.Progresses.{one_ecb, one_exit, one_table, one_task, one_call, the_end, sound_script, sound_ecb}
use Rattle.mv_script.proofs.Progresses.{sound_exit, sound_table}
use Rattle.mv_script.proofs.Progresses.{sound_task, sound_call, sound_end, same_cost, call_cost, without_tasks, is_positive}
use Rattle.mv_script.proofs.Told.{fine}
use Rattle.std.proofs.lemmas.Bool.{or_parts}

-- ---- answers taken apart

-- the first is true and the other is not
pub only_first : (a b : Bool) → (not a || b) ≡ false → (a ≡ true) × (b ≡ false)
only_first true b e = (refl, e)
only_first false b e = absurd cc

-- ---- lists

-- the last task takes the call
last_takes : (finished : List (List Call)) (calls : List Call) (c : Call)
    → with_call (finished ++ calls ∷ []) c ≡ finished ++ (calls ++ c ∷ []) ∷ []
last_takes [] calls c = refl
last_takes (first ∷ []) calls c = refl
last_takes (first ∷ second ∷ finished) calls c = ap (λ (x : List (List Call)). first ∷ x) (last_takes (second ∷ finished) calls c)

-- the last task
pub last_is : (finished : List (List Call)) (calls : List Call) → last_task (finished ++ calls ∷ []) ≡ calls
last_is [] calls = refl
last_is (first ∷ []) calls = refl
last_is (first ∷ second ∷ finished) calls = last_is (second ∷ finished) calls

-- one more OBTAIN, or none
pub count_push : (calls : List Call) (c : Call)
    → count_by is_obtain (calls ++ c ∷ []) ≡ count_by is_obtain calls + count_by is_obtain (c ∷ [])
count_push calls c = sum_by-append (λ (d : Call). cond (is_obtain d) 1 0) calls (c ∷ [])

-- what is not there
pub none_of : {A : Type 0} (o : Option A) → is_some o ≡ false → o ≡ None
none_of None e = refl
none_of (Some a) e = absurd (cc e)

-- SCRIPT stays the first
pub stays_first : (earlier : List Statement) (s : Statement) → is_script s ≡ false → has_script earlier ≡ true
    → has_script (earlier ++ s ∷ []) ≡ false → earlier ++ s ∷ [] ≡ []
stays_first earlier s e h f = absurd (cc (same_any is_script earlier s e, h, f))

-- where no task has begun nothing costs
none_costs : (o : Option Setup) (c : Setup) → is_some o ≡ false → HasCosts o c
none_costs None c e = tt
none_costs (Some d) c e = absurd cc

-- notes by their parts
abbrev of_parts : ℕ → List ℕ → List SetupExit → Option Table → Option Setup → List (List Call) → List ℕ → List Call → ℕ → ℕ → ℕ → Bool
    → Notes
of_parts stated owners exits table costs finished budgets calls spent obtains room ended = record {
  stated = stated;
  owners = owners;
  exits = exits;
  table = table;
  costs = costs;
  finished = finished;
  budgets = budgets;
  calls = calls;
  spent = spent;
  obtains = obtains;
  room = room;
  ended = ended;
}

-- notes that are the same in each part
pub same_notes : {a b : ℕ} {c d : List ℕ} {e f : List SetupExit} {w x : Option Table} {g h : Option Setup} {i j : List (List Call)}
    {k l : List ℕ} {m n : List Call} {o p q r s t : ℕ} {u v : Bool}
    → a ≡ b → c ≡ d → e ≡ f → w ≡ x → g ≡ h → i ≡ j → k ≡ l → m ≡ n → o ≡ p → q ≡ r → s ≡ t → u ≡ v
    → of_parts a c e w g i k m o q s u ≡ of_parts b d f x h j l n p r t v
same_notes e1 e2 e3 e4 e5 e6 e7 e8 e9 e10 e11 e12 = rw (e1, e2, e3, e4, e5, e6, e7, e8, e9, e10, e11, e12) refl

-- a configuration by its parts, with budgets of nothing
same_setup : (a b : ℕ) (c d : List ℕ) (e f : List SetupExit) → a ≡ b → c ≡ d → e ≡ f
    → script_setup a c e (replicate a 0) ≡ script_setup b d f (replicate b 0)
same_setup a b c d e f x y z = rw (x, y, z) refl

-- ---- what is asked, by the notes

module _ (earlier : List Statement) (n : Notes) (b : Stands earlier n) where
  -- so far
  abbrev p : Progress
  p = progress_of earlier

  -- whether a SCRIPT stands
  pub script_is : nat_lt 0 n.stated ≡ has_script earlier
  script_is = ap (nat_lt 0) b.far.stated ∙ sym b.far.sound.script

  -- an EXIT
  pub exit_is : nat_lt 0 (length n.exits) ≡ has_exit earlier
  exit_is = ap (λ (x : List SetupExit). nat_lt 0 (length x)) b.far.exits ∙ sym b.far.sound.exit

  -- a TABLE
  pub table_is : is_some n.table ≡ has_table earlier
  table_is = ap is_some b.far.table

  -- whether an ECB is late
  pub late_ecb : (m owner : ℕ) → m ≡ length n.exits
      → (not (nat_lt 0 n.stated) || (nat_lt 0 m || (is_some n.table || (is_some n.costs || n.ended))))
      ≡ is_out_of_order earlier (statement.Ecb owner)
  late_ecb m owner e = rw (e, script_is, exit_is, table_is, b.far.begun, b.far.ended) refl

  -- an EXIT
  pub late_exit : (source : ℕ) (targets : List ℕ)
      → (not (nat_lt 0 n.stated) || (is_some n.table || (is_some n.costs || n.ended)))
      ≡ is_out_of_order earlier (statement.Exit source targets)
  late_exit source targets = rw (script_is, table_is, b.far.begun, b.far.ended) refl

  -- a TABLE
  pub late_table : (t : Table) → (not (nat_lt 0 n.stated) || (is_some n.costs || n.ended)) ≡ is_out_of_order earlier (statement.Table t)
  late_table t = rw (script_is, b.far.begun, b.far.ended) refl

  -- a TASK
  pub late_task : (not (nat_lt 0 n.stated) || n.ended) ≡ is_out_of_order earlier statement.Task
  late_task = rw (script_is, b.far.ended) refl

  -- a call
  pub late_call : (c : Call) → (not (is_some n.costs) || n.ended) ≡ is_out_of_order earlier (statement.Call c)
  late_call c = rw (b.far.begun, b.far.ended) refl

  -- the END
  pub late_end : (not (nat_lt 0 n.stated) || n.ended) ≡ is_out_of_order earlier statement.End
  late_end = rw (script_is, b.far.ended) refl

  -- the configuration that calls cost by
  pub setup_is : (owners : List ℕ) (exits : List SetupExit) → owners ≡ n.owners → exits ≡ n.exits
      → script_setup n.stated owners exits (replicate n.stated 0) ≡ setup_in p (replicate p.stated 0)
  setup_is owners exits o x =
      same_setup n.stated p.stated owners p.owners exits p.exits b.far.stated (o ∙ b.far.owners) (x ∙ b.far.exits)

  -- where a line is in order, some tasks are stated
  pub some_stated : (late : Bool) → (not (has_script earlier) || late) ≡ false → 1 ≤ p.stated
  some_stated late e = is_positive p.stated (sym b.far.sound.script ∙ (only_first (has_script earlier) late e).0)

  -- what can be run does not cost too much
  cheap : (m : ℕ) → m ≤ events_limit → nat_lt events_limit m ≡ false
  cheap m le = grind arith

  -- a TABLE costs nothing
  pub cheap_table : (t : Table) → is_some n.table ≡ false → is_too_costly earlier (statement.Table t) ≡ false
  cheap_table t first =
      ap (λ (y : Progress). nat_lt events_limit (sum (budgets_in y)))
      (one_table earlier t (none_of p.table (ap is_some (sym b.far.table) ∙ first)))
      ∙ cheap (sum (budgets_in p)) b.far.sound.light

  -- the statement has no fault, and the reader is behind it
  taken : (s : Statement) (q : Progress) (m : Notes) → progress_of (earlier ++ s ∷ []) ≡ q → IsAsFar q m → is_script s ≡ false
      → has_script earlier ≡ true → is_out_of_order earlier s ≡ false → is_miscounted earlier s ≡ false → leads_down s ≡ false
      → lacks_obtain earlier s ≡ false → uses_table earlier s ≡ false → is_bad_table earlier s ≡ false
      → (kinds_behind earlier s ≡ []) × Stands (earlier ++ s ∷ []) m
  taken s q m is far other script order many up meant spares fits = (
    fine earlier s order many up meant (cheap (sum (budgets_of (earlier ++ s ∷ []))) (subst IsSoundSoFar (sym is) far.sound).light)
        spares fits,
    record { far = subst (λ (y : Progress). IsAsFar y m) (sym is) far; first = stays_first earlier s other script },
  )

  -- no task is finished where none has begun
  none_finished : p.task ≡ false → n.finished ≡ []
  none_finished e =
      let tasks : p.tasks ≡ [] = without_tasks p b.far.sound e in
      sym (append-nil n.finished) ∙ ap (λ (t : Bool). n.finished ++ open_task t n.calls) (sym e) ∙ b.far.tasks ∙ tasks

  few : (k m : ℕ) → m < k → nat_le k m ≡ false
  few k m lt = grind arith

  -- ---- an ECB, an EXIT, and the TABLE

  -- before the first TASK nothing costs yet, whichever blocks and exits there are, and whichever table
  headed : (owners own : List ℕ) (exit : Bool) (exits ways : List SetupExit) (table given : Option Table) → p.task ≡ false
      → IsSoundSoFar (record p { owners = owners; exit = exit; exits = exits; table = table }) → own ≡ owners → ways ≡ exits
      → given ≡ table
      → IsAsFar (record p { owners = owners; exit = exit; exits = exits; table = table })
      (record n { owners = own; exits = ways; table = given })
  headed owners own exit exits ways table given task sound o x t =
      let q : Progress = record p { owners = owners; exit = exit; exits = exits; table = table } in
      let none : n.finished ≡ [] = none_finished task in
      let empty : n.calls ≡ [] = b.far.fresh task in
      let tasks : p.tasks ≡ [] = without_tasks p b.far.sound task in record {
        sound = sound;
        stated = b.far.stated;
        owners = o;
        exits = x;
        table = t;
        begun = b.far.begun;
        costs = none_costs n.costs (setup_in q (replicate q.stated 0)) (b.far.begun ∙ task);
        tasks = b.far.tasks;
        fresh = b.far.fresh;
        budgets = b.far.budgets ∙ ap (map (costs_of (setup_in p []))) none ∙ sym (ap (map (costs_of (setup_in q []))) none);
        spent = b.far.spent ∙ ap (costs_of (setup_in p [])) empty ∙ sym (ap (costs_of (setup_in q [])) empty);
        obtains = b.far.obtains;
        room = ap (λ (l : List (List Call)). n.room + sum (map (costs_of (setup_in q [])) l)) tasks
            ∙ sym (ap (λ (l : List (List Call)). n.room + sum (map (costs_of (setup_in p [])) l)) tasks) ∙ b.far.room;
        ended = b.far.ended;
      }

  pub taken_ecb : (owner : ℕ) → is_out_of_order earlier (statement.Ecb owner) ≡ false → length n.owners < most_ecbs
      → owner < task_count earlier
      → (kinds_behind earlier (statement.Ecb owner) ≡ [])
      × Stands (earlier ++ statement.Ecb owner ∷ []) (record n { owners = n.owners ++ owner ∷ [] })
  taken_ecb owner order lt good =
      let a = only_first (has_script earlier) _ order in
      let x = or_parts (has_exit earlier) _ a.1 in
      let u = or_parts (has_table earlier) _ x.1 in
      let t = or_parts (has_task earlier) _ u.1 in
      let count : length p.owners < most_ecbs = subst (λ (l : List ℕ). length l < most_ecbs) b.far.owners lt in
      taken (statement.Ecb owner) _ _ (one_ecb earlier owner)
      (headed (p.owners ++ owner ∷ []) (n.owners ++ owner ∷ []) p.exit p.exits n.exits p.table n.table t.0
      (sound_ecb p b.far.sound owner x.0 (none_of p.table u.0) t.0 count good) (ap (λ (l : List ℕ). l ++ owner ∷ []) b.far.owners)
      b.far.exits b.far.table)
      refl a.0 order (few most_ecbs (length (owners_of earlier)) count) refl refl refl refl

  pub taken_exit : (source : ℕ) (targets : List ℕ) → is_out_of_order earlier (statement.Exit source targets) ≡ false
      → length n.exits < most_exits → leads_down (statement.Exit source targets) ≡ false
      → IsGoodStatement (sizes_behind earlier) (statement.Exit source targets)
      → (kinds_behind earlier (statement.Exit source targets) ≡ [])
      × Stands (earlier ++ statement.Exit source targets ∷ [])
      (record n { exits = n.exits ++ record { source = source; targets = targets } ∷ [] })
  taken_exit source targets order lt up good =
      let x : SetupExit = record { source = source; targets = targets } in
      let a = only_first (has_script earlier) _ order in
      let u = or_parts (has_table earlier) _ a.1 in
      let t = or_parts (has_task earlier) _ u.1 in
      let count : length p.exits < most_exits = subst (λ (l : List SetupExit). length l < most_exits) b.far.exits lt in
      taken (statement.Exit source targets) _ _ (one_exit earlier source targets)
      (headed p.owners n.owners true (p.exits ++ x ∷ []) (n.exits ++ x ∷ []) p.table n.table t.0
      (sound_exit p b.far.sound source targets (none_of p.table u.0) t.0 count good.0 good.1.0 good.1.1.0 good.1.1.1 up) b.far.owners
      (ap (λ (l : List SetupExit). l ++ x ∷ []) b.far.exits) b.far.table)
      refl a.0 order (few most_exits (length (exits_of earlier)) count) up refl refl refl

  pub taken_table : (t : Table) → is_out_of_order earlier (statement.Table t) ≡ false → is_some n.table ≡ false
      → IsTableOf (setup_in p []) t
      → (kinds_behind earlier (statement.Table t) ≡ [])
      × Stands (earlier ++ statement.Table t ∷ []) (record n { table = Some t })
  taken_table t order first is =
      let a = only_first (has_script earlier) _ order in
      let e = or_parts (has_task earlier) _ a.1 in
      let none : has_table earlier ≡ false = sym table_is ∙ first in
      taken (statement.Table t) _ _ (one_table earlier t (none_of p.table none))
      (headed p.owners n.owners p.exit p.exits n.exits (Some t) (Some t) e.0 (sound_table p b.far.sound t e.0 is) b.far.owners
      b.far.exits refl)
      refl a.0 order none refl refl refl (sym (can_have_is (setup_in p []) t) ∙ ap is_some is)

  -- ---- a TASK

  -- the room that is left
  same_room : n.room + sum (budgets_in (with_statement p statement.Task)) ≡ events_limit
  same_room = ap (λ (m : ℕ). n.room + m) (same_cost p b.far.sound) ∙ b.far.room

  -- behind another task
  pub taken_task : is_out_of_order earlier statement.Task ≡ false → length (tasks_of earlier) < task_count earlier → is_some n.costs ≡ true
      → (kinds_behind earlier statement.Task ≡ [])
      × Stands (earlier ++ statement.Task ∷ []) (record n {
        finished = n.finished ++ n.calls ∷ [];
        budgets = n.budgets ++ n.spent ∷ [];
        calls = [];
        spent = 0;
        obtains = 0;
      })
  taken_task order lt begun =
      let a = only_first (has_script earlier) _ order in
      let task : p.task ≡ true = sym b.far.begun ∙ begun in
      let c : List Call → ℕ = costs_of (setup_in p []) in
      taken statement.Task (with_statement p statement.Task) _ (one_task earlier) (record {
        sound = sound_task p b.far.sound lt a.1;
        stated = b.far.stated;
        owners = b.far.owners;
        exits = b.far.exits;
        table = b.far.table;
        begun = begun;
        costs = b.far.costs;
        tasks = ap (λ (l : List (List Call)). l ++ [] ∷ [])
            (ap (λ (t : Bool). n.finished ++ open_task t n.calls) (sym task) ∙ b.far.tasks);
        fresh = λ e. refl;
        budgets = ap (λ (l : List ℕ). l ++ n.spent ∷ []) b.far.budgets ∙ ap (λ (m : ℕ). map c n.finished ++ m ∷ []) b.far.spent
            ∙ sym (map-append c n.finished (n.calls ∷ []));
        spent = refl;
        obtains = refl;
        room = same_room;
        ended = b.far.ended;
      }) refl a.0 order (few (task_count earlier) (length (tasks_of earlier)) lt) refl refl refl refl

  -- the first task
  pub first_task : (k : Setup) → is_out_of_order earlier statement.Task ≡ false → length (tasks_of earlier) < task_count earlier
      → is_some n.costs ≡ false → k ≡ setup_in p (replicate p.stated 0)
      → (kinds_behind earlier statement.Task ≡ []) × Stands (earlier ++ statement.Task ∷ []) (record n { costs = Some k })
  first_task k order lt none same =
      let a = only_first (has_script earlier) _ order in
      let task : p.task ≡ false = sym b.far.begun ∙ none in
      let empty : n.calls ≡ [] = b.far.fresh task in
      let finished : n.finished ≡ [] = none_finished task in
      let tasks : p.tasks ≡ [] = without_tasks p b.far.sound task in
      taken statement.Task (with_statement p statement.Task) (record n { costs = Some k }) (one_task earlier) (record {
        sound = sound_task p b.far.sound lt a.1;
        stated = b.far.stated;
        owners = b.far.owners;
        exits = b.far.exits;
        table = b.far.table;
        begun = refl;
        costs = same;
        tasks = rw (empty, finished, tasks) refl;
        fresh = λ e. absurd cc;
        budgets = b.far.budgets;
        spent = b.far.spent;
        obtains = b.far.obtains;
        room = same_room;
        ended = b.far.ended;
      }) refl a.0 order (few (task_count earlier) (length (tasks_of earlier)) lt) refl refl refl refl

  -- ---- the tasks, where one has begun

  -- the tasks
  pub tasks_are : is_some n.costs ≡ true → tasks_of earlier ≡ n.finished ++ n.calls ∷ []
  tasks_are begun = sym b.far.tasks ∙ ap (λ (t : Bool). n.finished ++ open_task t n.calls) (sym b.far.begun ∙ begun)

  -- the calls of the last one
  pub last_calls : is_some n.costs ≡ true → last_task (tasks_of earlier) ≡ n.calls
  last_calls begun = ap last_task (tasks_are begun) ∙ last_is n.finished n.calls

  -- what their calls may cost
  pub budgets_are : is_some n.costs ≡ true → budgets_of earlier ≡ n.budgets ++ n.spent ∷ []
  budgets_are begun =
      let c : List Call → ℕ = costs_of (setup_in p []) in
      ap (map c) (tasks_are begun) ∙ map-append c n.finished (n.calls ∷ [])
      ∙ sym (ap (λ (l : List ℕ). l ++ n.spent ∷ []) b.far.budgets ∙ ap (λ (m : ℕ). map c n.finished ++ m ∷ []) b.far.spent)

  -- the last of them and what is left are within what all may cost
  pub spends_within : is_some n.costs ≡ true → n.spent + n.room ≤ events_limit
  spends_within begun =
      let all : sum (budgets_in p) ≡ sum n.budgets + n.spent =
      ap sum (budgets_are begun) ∙ sum_by_push (λ (m : ℕ). m) n.budgets n.spent in
      let room = b.far.room in
      omega arith

  -- behind END a task has begun, and there are as many as are stated
  pub ended_well : n.ended ≡ true → (is_some n.costs ≡ true) × ((1 ≤ p.stated) × (length p.tasks ≡ p.stated))
  ended_well e =
      let same : length p.tasks ≡ p.stated = b.far.sound.ended (sym b.far.ended ∙ e) in
      let some : 1 ≤ p.stated = is_positive p.stated (sym b.far.sound.script ∙ script (has_script earlier) refl) in
      (b.far.begun ∙ b.far.sound.task ∙ up (length p.tasks) (omega (arith, same, some)), (some, same)) where
        up : (m : ℕ) → 1 ≤ m → nat_lt 0 m ≡ true
        up m le = grind arith

        script : (h : Bool) → has_script earlier ≡ h → has_script earlier ≡ true
        script true is = is
        script false is = absurd (cc (ap has_end (b.first is), b.far.ended, e))

  -- ---- a call

  -- the kinds of a call that costs no more than there is room for
  pub not_much : (c : Call) → is_some n.costs ≡ true → cost (setup_in p []) c ≤ n.room
      → is_too_costly earlier (statement.Call c) ≡ false
  not_much c begun le =
      let e : sum (budgets_of (earlier ++ statement.Call c ∷ [])) ≡ sum (budgets_in p) + cost (setup_in p []) c =
      ap (λ (y : Progress). sum (budgets_in y)) (one_call earlier c) ∙ call_cost p b.far.sound c (sym b.far.begun ∙ begun) in
      ap (nat_lt events_limit) e ∙ low (sum (budgets_in p)) (cost (setup_in p []) c) n.room b.far.room le where
        low : (m d room : ℕ) → room + m ≡ events_limit → d ≤ room → nat_lt events_limit (m + d) ≡ false
        low m d room e le = grind arith

  -- the kinds of a call that costs too much
  pub too_much : (c : Call) → is_some n.costs ≡ true → n.room < cost (setup_in p []) c
      → is_too_costly earlier (statement.Call c) ≡ true
  too_much c begun lt =
      let e : sum (budgets_of (earlier ++ statement.Call c ∷ [])) ≡ sum (budgets_in p) + cost (setup_in p []) c =
      ap (λ (y : Progress). sum (budgets_in y)) (one_call earlier c) ∙ call_cost p b.far.sound c (sym b.far.begun ∙ begun) in
      ap (nat_lt events_limit) e ∙ high (sum (budgets_in p)) (cost (setup_in p []) c) n.room b.far.room lt where
        high : (m d room : ℕ) → room + m ≡ events_limit → room < d → nat_lt events_limit (m + d) ≡ true
        high m d room e lt = grind arith

  pub taken_call : (c : Call) (obtains : ℕ) → is_out_of_order earlier (statement.Call c) ≡ false → is_some n.costs ≡ true
      → length n.calls < most_calls → IsGoodStatement (sizes_behind earlier) (statement.Call c)
      → is_no_obtain n.calls (obtain_meant c) ≡ false → cost (setup_in p []) c ≤ n.room → uses_any n.table c ≡ false
      → obtains ≡ n.obtains + count_by is_obtain (c ∷ [])
      → (kinds_behind earlier (statement.Call c) ≡ [])
      × Stands (earlier ++ statement.Call c ∷ []) (record n {
        calls = n.calls ++ c ∷ [];
        spent = n.spent + cost (setup_in p []) c;
        obtains = obtains;
        room = n.room - cost (setup_in p []) c;
      })
  taken_call c obtains order begun lt good means le spares more =
      let a = only_first (has_task earlier) _ order in
      let d : ℕ = cost (setup_in p []) c in
      let last : last_task p.tasks ≡ n.calls = last_calls begun in
      let count : length (last_task p.tasks) < most_calls = subst (λ (l : List Call). length l < most_calls) (sym last) lt in
      let meant : is_no_obtain (last_task p.tasks) (obtain_meant c) ≡ false =
      ap (λ (l : List Call). is_no_obtain l (obtain_meant c)) last ∙ means in
      let spared : uses_any p.table c ≡ false = ap (λ (o : Option Table). uses_any o c) (sym b.far.table) ∙ spares in
      let total : sum (budgets_in (with_statement p (statement.Call c))) ≡ sum (budgets_in p) + d = call_cost p b.far.sound c a.0 in
      taken (statement.Call c) (with_statement p (statement.Call c)) _ (one_call earlier c) (record {
        sound = sound_call p b.far.sound c a.0 a.1 count good meant spared (omega (arith, b.far.room, le));
        stated = b.far.stated;
        owners = b.far.owners;
        exits = b.far.exits;
        table = b.far.table;
        begun = b.far.begun;
        costs = b.far.costs;
        tasks = ap (λ (t : Bool). n.finished ++ open_task t (n.calls ++ c ∷ [])) a.0 ∙ sym (last_takes n.finished n.calls c)
            ∙ ap (λ (l : List (List Call)). with_call l c) (sym (tasks_are begun));
        fresh = λ e. absurd (cc (a.0, e));
        budgets = b.far.budgets;
        spent = ap (λ (m : ℕ). m + d) b.far.spent ∙ sym (sum_by_push (cost (setup_in p [])) n.calls c);
        obtains = more ∙ ap (λ (m : ℕ). m + count_by is_obtain (c ∷ [])) b.far.obtains ∙ sym (count_push n.calls c);
        room = omega (arith, total, b.far.room, le);
        ended = b.far.ended;
      }) refl (begun_script a.0) order (few most_calls (length (last_task (tasks_of earlier))) count) refl meant spared refl
    where
      begun_script : has_task earlier ≡ true → has_script earlier ≡ true
      begun_script e =
          let some : 1 ≤ length p.tasks = is_positive (length p.tasks) (sym b.far.sound.task ∙ e) in
          b.far.sound.script ∙ up p.stated (omega (arith, some, b.far.sound.few_tasks)) where
            up : (m : ℕ) → 1 ≤ m → nat_lt 0 m ≡ true
            up m le = grind arith

  -- ---- END

  pub taken_end : is_out_of_order earlier statement.End ≡ false → task_count earlier ≤ length (tasks_of earlier)
      → (kinds_behind earlier statement.End ≡ []) × Stands (earlier ++ statement.End ∷ []) (record n { ended = true })
  taken_end order le =
      let a = only_first (has_script earlier) _ order in
      taken statement.End (with_statement p statement.End) (record n { ended = true }) (the_end earlier) (record {
        sound = sound_end p b.far.sound le;
        stated = b.far.stated;
        owners = b.far.owners;
        exits = b.far.exits;
        table = b.far.table;
        begun = b.far.begun;
        costs = b.far.costs;
        tasks = b.far.tasks;
        fresh = b.far.fresh;
        budgets = b.far.budgets;
        spent = b.far.spent;
        obtains = b.far.obtains;
        room = b.far.room;
        ended = refl;
      }) refl a.0 order (enough (task_count earlier) (length (tasks_of earlier)) le) refl refl refl refl
    where
      enough : (k m : ℕ) → k ≤ m → nat_lt m k ≡ false
      enough k m le = grind arith

-- ---- SCRIPT

pub taken_script : (earlier : List Statement) (n : Notes) (t : ℕ) → Stands earlier n → n.stated ≡ 0 → (1 ≤ t) × (t ≤ most_tasks)
    → (kinds_behind earlier (statement.Script t) ≡ []) × Stands (earlier ++ statement.Script t ∷ []) (record n { stated = t })
taken_script [] n t b zero good = (
  refl,
  record {
    far = record {
      sound = sound_script t good.0 good.1;
      stated = refl;
      owners = b.far.owners;
      exits = b.far.exits;
      table = b.far.table;
      begun = b.far.begun;
      costs = none_costs n.costs _ b.far.begun;
      tasks = b.far.tasks;
      fresh = b.far.fresh;
      budgets = b.far.budgets ∙ none_yet n.finished (sym (append-nil n.finished) ∙ b.far.tasks);
      spent = b.far.spent ∙ ap (costs_of (setup_in (progress_of []) [])) (b.far.fresh refl)
          ∙ sym (ap (costs_of (setup_in (progress_of (statement.Script t ∷ [])) [])) (b.far.fresh refl));
      obtains = b.far.obtains;
      room = b.far.room;
      ended = b.far.ended;
    };
    first = λ e. absurd cc;
  },
) where
  none_yet : (tasks : List (List Call)) → tasks ≡ [] → map (costs_of (setup_in (progress_of []) [])) tasks
      ≡ map (costs_of (setup_in (progress_of (statement.Script t ∷ [])) [])) tasks
  none_yet tasks e = rw e refl
taken_script (s ∷ earlier) n t b zero good =
    absurd (some (b.first (sym (script_is (s ∷ earlier) n b) ∙ ap (nat_lt 0) zero))) where
      some : s ∷ earlier ≡ [] → ⊥
      some e = absurd cc
