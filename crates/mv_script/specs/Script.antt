-- The script, and the script that a text without fault states.
use Rattle.std.specs.Prelude.{ℕ, Bool, true, false, List, [], ◌∷◌, ◌++◌, length, map, fold, filter_map, Option, Some, None}
use Rattle.std.specs.Prelude.{Ok}
use Rattle.std.specs.Option.{option_or}
use Rattle.mv_line.specs.Line.{lines_of}
use Rattle.mv_config.specs.Setup.{Setup, SetupExit}
use Rattle.mv_calls.specs.declared.table.Table.{Table}
use Rattle.mv_scriptline.specs.declared.call.Call.{Call}
use Rattle.mv_scriptline.specs.declared.call.Call.TheVariants as call
use Rattle.mv_script.specs.declared.script.Script.{Script}
use Rattle.mv_scriptline.specs.declared.statement.Statement.{Statement}
use Rattle.mv_scriptline.specs.declared.statement.Statement.TheVariants as statement
use Rattle.mv_scriptline.specs.Sizes.{SizesFace}
use Rattle.mv_script.specs.Costs.{script_setup, costs_of}
use Rattle.mv_scriptline.specs.Statement.{line_states}
use Rattle.mv_scriptline.specs.Words.{Read}

-- what contracts see of a script: the configuration, the calls of each task, and the table of events, if there is one
pub record ScriptData : Type 0 where
  pub setup : Setup
  pub tasks : List (List Call)
  pub table : Option Table

-- what contracts see of this script
abbrev pub script_data : Script → ScriptData
script_data s = record { setup = s.config; tasks = s.tasks.items; table = s.table }

-- ---- what statements state together

-- how many tasks the first SCRIPT states; 0 without one
abbrev pub task_count : List Statement → ℕ
task_count [] = 0
task_count (statement.Script t ∷ statements) = t
task_count (_ ∷ statements) = task_count statements

-- the owner of a block, if a statement is an ECB
abbrev pub owner_in : Statement → Option ℕ
owner_in (statement.Ecb owner) = Some owner
owner_in _ = None

-- the owners of all blocks, in order
abbrev pub owners_of : List Statement → List ℕ
owners_of statements = filter_map owner_in statements

-- the exit, if a statement is an EXIT
abbrev pub exit_in : Statement → Option SetupExit
exit_in (statement.Exit source targets) = Some (record { source = source; targets = targets })
exit_in _ = None

-- all exits, in order
abbrev pub exits_of : List Statement → List SetupExit
exits_of statements = filter_map exit_in statements

-- the table, if a statement is a TABLE
abbrev pub table_in : Statement → Option Table
table_in (statement.Table t) = Some t
table_in _ = None

-- the table of the first TABLE, if there is one
abbrev pub table_of : List Statement → Option Table
table_of [] = None
table_of (s ∷ statements) = option_or (table_in s) (table_of statements)

-- the tasks, the last of which makes one more call
abbrev pub with_call : List (List Call) → Call → List (List Call)
with_call [] c = []
with_call (calls ∷ []) c = (calls ++ c ∷ []) ∷ []
with_call (calls ∷ other ∷ tasks) c = calls ∷ with_call (other ∷ tasks) c

-- the tasks after one more statement
abbrev pub tasks_behind : List (List Call) → Statement → List (List Call)
tasks_behind tasks statement.Task = tasks ++ [] ∷ []
tasks_behind tasks (statement.Call c) = with_call tasks c
tasks_behind tasks _ = tasks

-- the calls of each task
abbrev pub tasks_of : List Statement → List (List Call)
tasks_of statements = fold tasks_behind [] statements

-- the calls of the last task
abbrev pub last_task : List (List Call) → List Call
last_task [] = []
last_task (calls ∷ []) = calls
last_task (calls ∷ other ∷ tasks) = last_task (other ∷ tasks)

-- whether a call is an OBTAIN
abbrev pub is_obtain : Call → Bool
is_obtain (call.Obtain latch requestor mode form) = true
is_obtain _ = false

-- the configuration of a script with these statements and these budgets
abbrev pub setup_with : List Statement → List ℕ → Setup
setup_with statements budgets = script_setup (task_count statements) (owners_of statements) (exits_of statements) budgets

-- how many events the calls of each task may cost
abbrev pub budgets_of : List Statement → List ℕ
budgets_of statements = map (costs_of (setup_with statements [])) (tasks_of statements)

-- the script that these statements state
abbrev pub script_in : List Statement → ScriptData
script_in statements = record {
  setup = setup_with statements (budgets_of statements);
  tasks = tasks_of statements;
  table = table_of statements;
}

-- ---- the statements of lines

-- what a line after these statements may name: the numbers of tasks and of blocks, and the table
abbrev pub sizes_behind : List Statement → SizesFace
sizes_behind earlier = record { tasks = task_count earlier; ecbs = length (owners_of earlier); table = table_of earlier }

-- the statement that a line adds, if it has one
abbrev pub added : Option (Read Statement) → List Statement
added (Some (Ok s)) = s ∷ []
added _ = []

-- the statements after one more line
abbrev pub with_line : List Statement → List ℕ → List Statement
with_line earlier line = earlier ++ added (line_states (sizes_behind earlier) line)

-- the statements of lines, in order
abbrev pub statements_of : List (List ℕ) → List Statement
statements_of lines = fold with_line [] lines

-- the script of a text without fault
abbrev pub script_of : List ℕ → ScriptData
script_of bytes = script_in (statements_of (lines_of bytes))
