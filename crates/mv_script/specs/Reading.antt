-- The invariant of the reader of scripts, after these statements.
use Rattle.std.specs.Prelude.{◌≡◌, ℕ, ◌+◌, ◌≤◌, Bool, true, false, nat_lt, List, [], ◌∷◌, ◌++◌, length, map, sum, count_by, replicate}
use Rattle.std.specs.Prelude.{Option, Some, None, is_some, Result, Ok, Err, ◌<◌}
use Rattle.std.specs.List.{AllByRecursion}
use Rattle.mv_config.specs.Config.{exit_of}
use Rattle.mv_config.specs.Limits.{events_limit}
use Rattle.mv_config.specs.Setup.{Setup, SetupExit}
use Rattle.mv_calls.specs.declared.table.Table.{Table}
use Rattle.mv_calls.specs.Table.{IsTableOf}
use Rattle.mv_scriptline.specs.declared.call.Call.{Call}
use Rattle.mv_scriptline.specs.declared.fault.Kind.{Kind}
use Rattle.mv_scriptline.specs.Sizes.{SizesFace}
use Rattle.mv_script.specs.declared.reading.Reading.{Reading}
use Rattle.mv_scriptline.specs.declared.statement.Statement.{Statement}
use Rattle.mv_scriptline.specs.declared.statement.Statement.TheVariants as statement
use Rattle.mv_script.specs.Costs.{script_setup, costs_of}
use Rattle.mv_script.specs.Fault.{has_script, has_exit, has_task, has_end, kinds_behind}
use Rattle.mv_scriptline.specs.Kind.{kind_number}
use Rattle.mv_line.specs.declared.fault.LineRefusal.{LineRefusal}
use Rattle.mv_line.specs.Fault.{TellsLowest}
use Rattle.mv_scriptline.specs.Limits.{most_tasks, most_ecbs, most_exits}
use Rattle.mv_script.specs.Script.{task_count, owners_of, exits_of, table_of, tasks_of, with_call, sizes_behind, is_obtain}
use Rattle.mv_script.specs.Sound.{IfThere, IsSoundExit, IsSoundTask, IsGoodStatement}

-- ---- what the statements so far state

-- what statements state: how many tasks, the blocks and exits, the table, and the tasks with their calls; and which sorts of
-- lines are among them
pub record Progress : Type 0 where
  pub script : Bool
  pub stated : ℕ
  pub owners : List ℕ
  pub exit : Bool
  pub exits : List SetupExit
  pub table : Option Table
  pub task : Bool
  pub tasks : List (List Call)
  pub ended : Bool

-- what these statements state
abbrev pub progress_of : List Statement → Progress
progress_of statements = record {
  script = has_script statements;
  stated = task_count statements;
  owners = owners_of statements;
  exit = has_exit statements;
  exits = exits_of statements;
  table = table_of statements;
  task = has_task statements;
  tasks = tasks_of statements;
  ended = has_end statements;
}

-- what is stated with one more statement, which is in order
abbrev pub with_statement : Progress → Statement → Progress
with_statement p (statement.Script t) = record p { script = true; stated = t }
with_statement p (statement.Ecb owner) = record p { owners = p.owners ++ owner ∷ [] }
with_statement p (statement.Exit source targets) =
    record p { exit = true; exits = p.exits ++ record { source = source; targets = targets } ∷ [] }
with_statement p (statement.Table t) = record p { table = Some t }
with_statement p statement.Task = record p { task = true; tasks = p.tasks ++ [] ∷ [] }
with_statement p (statement.Call c) = record p { tasks = with_call p.tasks c }
with_statement p statement.End = record p { ended = true }

-- what a line may name: the numbers of tasks and of blocks, and the table
abbrev pub sizes_in : Progress → SizesFace
sizes_in p = record { tasks = p.stated; ecbs = length p.owners; table = p.table }

-- the configuration so far, with these budgets
abbrev pub setup_in : Progress → List ℕ → Setup
setup_in p budgets = script_setup p.stated p.owners p.exits budgets

-- how many events the calls of each task may cost
abbrev pub budgets_in : Progress → List ℕ
budgets_in p = map (costs_of (setup_in p [])) p.tasks

-- what is stated so far is part of a script that can be run
pub record IsSoundSoFar (p : Progress) : Type 0 where
  pub few : p.stated ≤ most_tasks
  pub script : p.script ≡ nat_lt 0 p.stated
  pub few_ecbs : length p.owners ≤ most_ecbs
  pub owners : AllByRecursion (λ owner. owner < p.stated) p.owners
  pub few_exits : length p.exits ≤ most_exits
  pub exits : AllByRecursion (IsSoundExit (sizes_in p)) p.exits
  pub exit : p.exit ≡ nat_lt 0 (length p.exits)
  pub table : IfThere (IsTableOf (setup_in p [])) p.table
  pub few_tasks : length p.tasks ≤ p.stated
  pub tasks : AllByRecursion (IsSoundTask (sizes_in p)) p.tasks
  pub task : p.task ≡ nat_lt 0 (length p.tasks)
  pub light : sum (budgets_in p) ≤ events_limit
  pub ended : p.ended ≡ true → length p.tasks ≡ p.stated

-- ---- the reader

-- what contracts see of the reader; `finished` has the tasks before the last one, `calls` those of the last one
pub record Notes : Type 0 where
  pub stated : ℕ
  pub owners : List ℕ
  pub exits : List SetupExit
  pub table : Option Table
  pub costs : Option Setup
  pub finished : List (List Call)
  pub budgets : List ℕ
  pub calls : List Call
  pub spent : ℕ
  pub obtains : ℕ
  pub room : ℕ
  pub ended : Bool

-- what contracts see of this reader
abbrev pub notes_of : Reading → Notes
notes_of r = record {
  stated = r.stated;
  owners = r.owners.items;
  exits = map exit_of r.exits.items;
  table = r.table;
  costs = r.costs;
  finished = r.finished.items;
  budgets = r.budgets.items;
  calls = r.calls.items;
  spent = r.spent;
  obtains = r.obtains;
  room = r.room;
  ended = r.ended;
}

-- the task that takes calls, if one has begun
abbrev pub open_task : Bool → List Call → List (List Call)
open_task false calls = []
open_task true calls = calls ∷ []

-- the configuration by which costs are computed is c, if a task has begun
abbrev pub HasCosts : Option Setup → Setup → Type 0
HasCosts None c = Unit {0}
HasCosts (Some costs) c = costs ≡ c

-- n is what a reader keeps if p is what was stated
pub record IsAsFar (p : Progress) (n : Notes) : Type 0 where
  pub sound : IsSoundSoFar p
  pub stated : n.stated ≡ p.stated
  pub owners : n.owners ≡ p.owners
  pub exits : n.exits ≡ p.exits
  pub table : n.table ≡ p.table
  pub begun : is_some n.costs ≡ p.task
  pub costs : HasCosts n.costs (setup_in p (replicate p.stated 0))
  pub tasks : n.finished ++ open_task p.task n.calls ≡ p.tasks
  pub fresh : p.task ≡ false → n.calls ≡ []
  pub budgets : n.budgets ≡ map (costs_of (setup_in p [])) n.finished
  pub spent : n.spent ≡ costs_of (setup_in p []) n.calls
  pub obtains : n.obtains ≡ count_by is_obtain n.calls
  pub room : n.room + sum (budgets_in p) ≡ events_limit
  pub ended : n.ended ≡ p.ended

-- n is what a reader keeps after these statements, of which the first is SCRIPT
pub record Stands (statements : List Statement) (n : Notes) : Type 0 where
  pub far : IsAsFar (progress_of statements) n
  pub first : has_script statements ≡ false → statements ≡ []

-- the reader has read these statements, and keeps what follows from them
abbrev pub IsBehind : List Statement → Reading → Type 0
IsBehind statements r = Stands statements (notes_of r)

-- the reader has read some statements, and this one names only what they state
abbrev pub IsToTake : Reading → Statement → Type 0
IsToTake r s = (earlier : List Statement) × (IsBehind earlier r × IsGoodStatement (sizes_behind earlier) s)

-- the statement has no fault and the reader has read it, too; or the refusal has the lowest kind of its faults
abbrev pub IsTaken : Result (Unit {0}) (LineRefusal Kind) → List Statement → Statement → Reading → Type 0
IsTaken (Ok done) earlier s r = (kinds_behind earlier s ≡ []) × IsBehind (earlier ++ s ∷ []) r
IsTaken (Err refusal) earlier s r = TellsLowest kind_number refusal (kinds_behind earlier s)
