-- The tasks of a run: new ones, and those that have come as far as they can.
use Rattle.std.proofs.Common.{◌≡◌, ℕ, suc, ◌+◌, ◌<◌, ◌≤◌, List, [], ◌∷◌, length, get_or, map, take, drop, Option, refl, sym, ap, ◌∙◌}
use Rattle.std.proofs.Common.{subst, arith}
use Rattle.std.specs.List.{AllByRecursion}
use Rattle.std.specs.Prelude.{All, slice_get, count_by}
use Rattle.std.proofs.lemmas.List.{get_or-map, length-map}
use Rattle.std.proofs.lemmas.Option.{unwrap_or-slice_get}
use Rattle.mv_board.specs.Faces.{AreFresh, AreInOrder, BoardFace, CallerFace, IsFresh, IsIn, IsOf}
use Rattle.mv_calls.specs.Rest.{IsAtRest}
use Rattle.mv_calls.specs.declared.table.Table.{Table}
use Rattle.mv_latchset.specs.declared.token.LatchToken.{LatchToken}
use Rattle.mv_calls.proofs.Interleaved.{callers_exist}
use Rattle.mv_config.specs.Check.{IsValid}
use Rattle.mv_machine.specs.Legal.{Legal, after}
use Rattle.mv_config.specs.Limits.{events_limit, highest_place}
use Rattle.mv_machine.specs.Orderly.{IsOrderly}
use Rattle.mv_config.specs.Setup.{Setup}
use Rattle.mv_machine.specs.State.{IsOpenedWith, system_of}
use Rattle.mv_machine.specs.System.{opening}
use Rattle.mv_machine.specs.declared.entry.Entry.{Entry}
use Rattle.mv_machine.proofs.Longer.{entries_fit}
use Rattle.mv_machine.proofs.Orderly.{history_is_orderly}
use Rattle.mv_runscript.specs.Making.{AreOfLatches, IsForScripts, MakesCalls}
use Rattle.mv_runscript.specs.Rooms.{script_with}
use Rattle.mv_script.specs.Costs.{costs_of}
use Rattle.mv_script.specs.Script.{is_obtain}
use Rattle.mv_script.specs.Sound.{IsSound}
use Rattle.mv_script.specs.Tasks.{calls_at, no_past}
use Rattle.mv_script.specs.declared.answer.Answer.{Answer}
use Rattle.mv_scriptline.specs.declared.call.Call.{Call}
use Rattle.mv_wait.proofs.Parts.{fresh_at, one_of, still_of}
use Rattle.mv_wait.proofs.Runs.{same_then}
use Rattle.mv_runscript.proofs.Paths.{path_went}
use Rattle.mv_runscript.proofs.Scripts.{task_count}
use Rattle.mv_pollscript.specs.SoFar.{HasGotTo, IsRunSoFar}
use Rattle.mv_pollscript.specs.Task.{AreTasksAt, IsNewTask, IsTaskAt, Stands}
use Rattle.mv_pollscript.specs.declared.run.RunSoFar.{RunSoFar}
use Rattle.mv_pollscript.specs.declared.task.ScriptTask.{ScriptTask}
use Rattle.mv_pollscript.proofs.Halves.{half}
use Rattle.mv_pollscript.proofs.Histories.{got_to, new_at_rest}

abbrev pub task_of : ScriptTask → CallerFace
task_of p = p.task

abbrev pub answers_of : ScriptTask → List Answer
answers_of p = p.answers.items

-- a new task that has the events that its calls may cost
pub new_at : (b : BoardFace) (table : Option Table) (calls : List Call) (k : ℕ) (p : ScriptTask) → IsNewTask p → IsFresh b k p.task
    → costs_of b.config calls ≤ p.task.left → IsTaskAt b table calls k p
new_at b table calls k p new fresh left =
    let none : length p.answers.items ≡ 0 = ap length new.answers in record {
      first = p.task;
      fresh = fresh;
      between = p.task;
      makes = subst (λ (given : List Answer).
          MakesCalls b.config table (take (length given) calls) given [] p.requests.items p.task p.task) (sym new.answers)
          (new.requests, refl);
      few = omega arith;
      requests = subst AreOfLatches (sym new.requests) tt;
      count = ap (λ (rs : List (Option LatchToken)). length rs) new.requests
          ∙ ap (λ (given : List Answer). count_by is_obtain (take (length given) calls)) (sym new.answers);
      board = fresh.board;
      rest = subst IsAtRest (sym fresh.log) new_at_rest;
      left = subst (λ n. costs_of b.config (drop n calls) ≤ p.task.left) (sym none) left;
      stands = subst (Stands b.config (slice_get calls (length p.answers.items)) p.task p.task) (sym new.stage) refl;
    }

module _ (b : BoardFace) (table : Option Table) (lists : List (List Call)) (sound : IsSound (script_with b.config table lists)) where
  -- the events that are left to a new task
  budget : (k : ℕ) (t : CallerFace) → k < length lists → IsFresh b k t → costs_of b.config (get_or lists k []) ≤ t.left
  budget k t lt fresh =
      let budgets = ap (λ (s : Setup). get_or s.budgets k 0) sound.setup in
      let own = get_or-map (costs_of b.config) lists k [] 0 lt in
      let left = fresh.left in omega arith

  -- new tasks
  pub new_tasks : (tasks : List CallerFace) (ps : List ScriptTask) → AreFresh b 0 tasks → AllByRecursion IsNewTask ps
      → map task_of ps ≡ tasks → length ps ≡ length lists → AreTasksAt b table lists ps
  new_tasks tasks ps fresh new is size k d lt =
      let count : length ps ≡ length tasks = sym (length-map ps task_of) ∙ ap (λ (ts : List CallerFace). length ts) is in
      let p = get_or ps k d in
      let at = subst (λ m. IsFresh b m (get_or tasks k (task_of d))) (let e : 0 + k ≡ k = omega arith in e)
      (fresh_at b 0 k tasks (task_of d) fresh (omega arith)) in
      let same : get_or tasks k (task_of d) ≡ p.task =
      ap (λ (ts : List CallerFace). get_or ts k (task_of d)) (sym is) ∙ get_or-map task_of ps k d (task_of d) lt in
      let own = subst (λ (f : CallerFace). IsFresh b k f) same at in
      new_at b table (get_or lists k []) k p (one_of IsNewTask ps k d new lt) own (budget k p.task (omega arith) own)

-- there are as many of them as tasks
pub same_count : (tasks : List CallerFace) (ps : List ScriptTask) → map task_of ps ≡ tasks → length ps ≡ length tasks
same_count tasks ps is = sym (length-map ps task_of) ∙ ap (λ (ts : List CallerFace). length ts) is

-- the task of a board, with its number
pub own_task : (b : BoardFace) (table : Option Table) (calls : List Call) (k : ℕ) (p : ScriptTask) → IsTaskAt b table calls k p
    → IsOf b p.task × (p.task.number ≡ k)
own_task b table calls k p at =
    let begun = half b.config table no_past at.between p.task (slice_get calls (length p.answers.items)) p.stage at.stands in
    let made = path_went b.config table (take (length p.answers.items) calls) p.answers.items [] p.requests.items at.first at.between
    at.makes in
    let same = same_then at.first at.between p.task made.1.same begun.went.same in
    (still_of b b at.first p.task same at.fresh.board refl, same.number ∙ at.fresh.number)

in_order : (b : BoardFace) (j : ℕ) (ps : List ScriptTask)
    → ((k : ℕ) (d : ScriptTask) → k < length ps → IsOf b (task_of (get_or ps k d)) × ((task_of (get_or ps k d)).number ≡ j + k))
    → AreInOrder b j (map task_of ps)
in_order b j [] each = tt
in_order b j (p ∷ ps) each =
    let own = each 0 p (omega arith) in (
      own.0,
      own.1 ∙ (let e : j + 0 ≡ j = omega arith in e),
      in_order b (suc j) ps (λ k d lt.
          let at = each (suc k) d (omega arith) in (at.0, at.1 ∙ (let e : j + suc k ≡ suc j + k = omega arith in e))),
    )

pub tasks_in_order : (b : BoardFace) (table : Option Table) (lists : List (List Call)) (ps : List ScriptTask) → AreTasksAt b table lists ps
    → AreInOrder b 0 (map task_of ps)
tasks_in_order b table lists ps all = in_order b 0 ps (λ k d lt.
    let own = own_task b table (get_or lists k []) k (get_or ps k d) (all k d lt) in
    (own.0, own.1 ∙ (let e : k ≡ 0 + k = omega arith in e)))

-- ---- what they have done

first_of : {A : Type 0} (xs : List A) → 0 < length xs → A
first_of [] some = absurd (omega arith)
first_of (x ∷ xs) some = x

-- each has got to the call after those that it has made, in a history of which its events are its part
pub all_got_to : (b : BoardFace) (table : Option Table) (lists : List (List Call)) (ps : List ScriptTask) (es : List Entry)
    → AreTasksAt b table lists ps → AllByRecursion (IsIn b.config es) (map task_of ps) → length ps ≡ length lists → (k : ℕ) → k < length lists
    → HasGotTo (script_with b.config table lists) es k (get_or (map answers_of ps) k [])
all_got_to b table lists ps es all within size k lt =
    let d = first_of ps (omega arith) in
    let p = get_or ps k d in
    let low : k < length ps = omega arith in
    let count = length-map ps task_of in
    let at : IsTaskAt b table (calls_at (script_with b.config table lists) k) k p =
    subst (λ (cs : List Call). IsTaskAt b table cs k p) (sym (unwrap_or-slice_get lists k [])) (all k d low) in
    let own : IsIn b.config es p.task =
    subst (IsIn b.config es) (get_or-map task_of ps k d (task_of d) low)
    (one_of (IsIn b.config es) (map task_of ps) k (task_of d) within (omega arith)) in
    subst (λ (answers : List Answer). HasGotTo (script_with b.config table lists) es k answers)
    (sym (get_or-map answers_of ps k d [] low)) (got_to b table lists es k p at own)

-- ---- the configuration of a script

pub for_scripts : (c : Setup) (table : Option Table) (lists : List (List Call)) → IsSound (script_with c table lists) → IsForScripts c
for_scripts c table lists sound = record {
  elements = ap (λ (s : Setup). s.elements_per_caller) sound.setup;
  volume_count = ap (λ (s : Setup). s.volumes) sound.setup;
  latch_count = ap (λ (s : Setup). s.latches) sound.setup;
}

-- ---- the run

pub run_is : (b : BoardFace) (c : Setup) (table : Option Table) (lists : List (List Call)) (ps : List ScriptTask) (es : List Entry)
    (r : RunSoFar)
    → IsSound (script_with c table lists) → IsValid c → b.config ≡ c → length ps ≡ length lists → AreTasksAt b table lists ps
    → AllByRecursion (IsIn b.config es) (map task_of ps) → Legal b.config es → length es ≤ events_limit → r.config ≡ c
    → r.journal.items ≡ es → system_of r.state ≡ after c es → IsOpenedWith c r.state → r.answers.items ≡ map answers_of ps
    → IsRunSoFar (script_with c table lists) r
run_is b c table lists ps es r sound valid config size all within legal few same journal state opened answers =
    let own = subst (λ (s : Setup). Legal s es) config legal in record {
      config = same;
      valid = valid;
      legal = subst (Legal c) (sym journal) own;
      callers = subst (AllByRecursion (λ e. e.caller < length lists)) (sym journal)
          (subst (λ n. AllByRecursion (λ e. e.caller < n) es) (task_count c table lists sound) (callers_exist c (opening c) es own));
      orderly = subst (IsOrderly c) (sym journal) (history_is_orderly c es own);
      state = subst (λ (xs : List Entry). system_of r.state ≡ after c xs) (sym journal) state;
      opened = opened;
      lists = ap (λ (xs : List (List Answer)). length xs) answers ∙ length-map ps answers_of ∙ size;
      tasks = λ k lt. subst (λ (xs : List Entry). HasGotTo (script_with c table lists) xs k (get_or r.answers.items k [])) (sym journal)
          (subst (λ (xs : List (List Answer)). HasGotTo (script_with c table lists) es k (get_or xs k [])) (sym answers)
          (subst (λ (s : Setup). HasGotTo (script_with s table lists) es k (get_or (map answers_of ps) k [])) config
          (all_got_to b table lists ps es all within size k lt)));
      few = subst (λ (xs : List Entry). length xs ≤ events_limit) (sym journal) few;
      places = subst (All (λ e. e.place ≤ highest_place)) (sym journal) (entries_fit b.config es legal few);
    }
