-- Scripts that can be run.
use Rattle.std.specs.Prelude.{◌≡◌, ℕ, ◌*◌, ◌<◌, ◌≤◌, false, List, [], ◌∷◌, ◌++◌, length, map, sum, count_by, Option, Some, None}
use Rattle.std.specs.List.{AllByRecursion}
use Rattle.mv_ecb.specs.Table.{code_limit}
use Rattle.mv_element.specs.declared.element.Token.{Token}
use Rattle.mv_element.specs.Table.{release_limit}
use Rattle.mv_latch.specs.declared.request.LatchForm.{LatchForm}
use Rattle.mv_latch.specs.declared.request.LatchForm.TheVariants.{Conditional, Waiting, Posted}
use Rattle.mv_config.specs.Limits.{events_limit, highest_place, highest_generation}
use Rattle.mv_config.specs.Setup.{SetupExit}
use Rattle.mv_calls.specs.Table.{IsTableOf}
use Rattle.mv_scriptline.specs.declared.call.Call.{Call}
use Rattle.mv_scriptline.specs.declared.call.Call.TheVariants as call
use Rattle.mv_scriptline.specs.Sizes.{SizesFace}
use Rattle.mv_scriptline.specs.declared.statement.Statement.{Statement}
use Rattle.mv_scriptline.specs.declared.statement.Statement.TheVariants as statement
use Rattle.mv_script.specs.Costs.{script_setup, costs_of}
use Rattle.mv_script.specs.Fault.{obtain_meant}
use Rattle.mv_scriptline.specs.Limits.{most_tasks, most_ecbs, most_exits, most_targets, most_calls, most_waited, highest_count, highest_latch}
use Rattle.mv_scriptline.specs.Limits.{elements_per_task, volumes}
use Rattle.mv_scriptline.specs.Operand.{event_count, position_count}
use Rattle.mv_script.specs.Script.{ScriptData, is_obtain}
use Rattle.mv_script.specs.Table.{uses_any}

-- ---- calls

-- the script has this block
abbrev pub IsEcb : SizesFace → ℕ → Type 0
IsEcb z e = e < z.ecbs

-- the script has this element
abbrev pub IsElement : SizesFace → ℕ → Type 0
IsElement z n = n < elements_per_task * z.tasks

-- a token names an element of the script, and has a generation that is not the last
abbrev pub IsToken : SizesFace → Token → Type 0
IsToken z t = IsElement z t.element × (t.generation < highest_generation)

-- P holds of the value, if there is one
abbrev pub IfThere : {A : Type 0} → (A → Type 0) → Option A → Type 0
IfThere P None = Unit {0}
IfThere P (Some a) = P a

-- if a form posts a block, the script has that block
abbrev pub HasEcb : SizesFace → LatchForm → Type 0
HasEcb z Conditional = Unit {0}
HasEcb z Waiting = Unit {0}
HasEcb z (Posted e) = IsEcb z e

-- the numbers of a call are in their ranges, and name blocks, elements, volumes and events that the script has
abbrev pub HasGoodNumbers : SizesFace → Call → Type 0
HasGoodNumbers z (call.Wait count ecbs) = (count ≤ highest_count) × ((length ecbs ≤ most_waited) × AllByRecursion (IsEcb z) ecbs)
HasGoodNumbers z (call.Post ecb code) = IsEcb z ecb × (code < code_limit)
HasGoodNumbers z (call.TryPost ecb place code) = IsEcb z ecb × ((place ≤ highest_place) × (code < code_limit))
HasGoodNumbers z (call.Clear ecb) = IsEcb z ecb
HasGoodNumbers z (call.Extend ecb exit) = IsEcb z ecb
HasGoodNumbers z (call.Test ecb) = IsEcb z ecb
HasGoodNumbers z (call.Read volume) = volume < volumes
HasGoodNumbers z (call.Write volume number) = volume < volumes
HasGoodNumbers z call.Alloc = Unit {0}
HasGoodNumbers z (call.Pause token) = IsToken z token
HasGoodNumbers z (call.Release token code) = IsToken z token × (code < release_limit)
HasGoodNumbers z (call.TryRelease token place code) = IsToken z token × ((place ≤ highest_place) × (code < release_limit))
HasGoodNumbers z (call.Transfer current target code) = IfThere (IsToken z) current × (IsToken z target × (code < release_limit))
HasGoodNumbers z (call.Dealloc token) = IsToken z token
HasGoodNumbers z (call.TestElement element) = IsElement z element
HasGoodNumbers z (call.Obtain latch requestor mode form) = (latch ≤ highest_latch) × HasEcb z form
HasGoodNumbers z (call.Check k) = Unit {0}
HasGoodNumbers z (call.Free k conditional) = Unit {0}
HasGoodNumbers z (call.Purge requestor) = Unit {0}
HasGoodNumbers z (call.EndTask requestor mother code) = IfThere (IsEcb z) mother × (code < code_limit)
HasGoodNumbers z (call.PostEvent index code) = (index < event_count z.table) × (code < code_limit)
HasGoodNumbers z (call.NextEvent position) = position < position_count z.table

-- a number is that of an OBTAIN among these calls, counted from 1
abbrev pub IsObtainOf : List Call → ℕ → Type 0
IsObtainOf before k = (1 ≤ k) × (k ≤ count_by is_obtain before)

-- a call may follow these calls of its task
pub record IsSoundCall (z : SizesFace) (before : List Call) (c : Call) : Type 0 where
  pub numbers : HasGoodNumbers z c
  pub obtain : IfThere (IsObtainOf before) (obtain_meant c)
  pub spares : uses_any z.table c ≡ false

-- each of these calls may follow the calls before it
abbrev pub AreSoundCalls : SizesFace → List Call → List Call → Type 0
AreSoundCalls z before [] = Unit {0}
AreSoundCalls z before (c ∷ calls) = IsSoundCall z before c × AreSoundCalls z (before ++ c ∷ []) calls

-- the calls of a task
pub record IsSoundTask (z : SizesFace) (calls : List Call) : Type 0 where
  pub few : length calls ≤ most_calls
  pub sound : AreSoundCalls z [] calls

-- ---- statements

-- the numbers of a statement are in their ranges, and name tasks, blocks, elements and volumes that the script has
abbrev pub IsGoodStatement : SizesFace → Statement → Type 0
IsGoodStatement z (statement.Script t) = (1 ≤ t) × (t ≤ most_tasks)
IsGoodStatement z (statement.Ecb owner) = owner < z.tasks
IsGoodStatement z (statement.Exit source targets) =
    IsEcb z source × ((1 ≤ length targets) × ((length targets ≤ most_targets) × AllByRecursion (IsEcb z) targets))
IsGoodStatement z (statement.Table t) = Unit {0}
IsGoodStatement z statement.Task = Unit {0}
IsGoodStatement z (statement.Call c) = HasGoodNumbers z c
IsGoodStatement z statement.End = Unit {0}

-- ---- scripts

-- an exit has one to four targets, each of them a block above the exit's source
pub record IsSoundExit (z : SizesFace) (x : SetupExit) : Type 0 where
  pub source : IsEcb z x.source
  pub some : 1 ≤ length x.targets
  pub few : length x.targets ≤ most_targets
  pub up : AllByRecursion (λ target. IsEcb z target × (x.source < target)) x.targets

-- what the calls of a script may name: the numbers of tasks and of blocks, and the table
abbrev pub sizes_of : ScriptData → SizesFace
sizes_of script = record { tasks = length script.tasks; ecbs = length script.setup.owners; table = script.table }

-- A script that can be run. It has one to eight tasks of at most 128 calls each, at most 64 blocks, each owned by a task, and at
-- most 16 exits. Its configuration is that of a script, with the costs of each task's calls as the task's budget. The budgets are
-- within the limit of a run, and the table, if there is one, was checked against the configuration.
pub record IsSound (script : ScriptData) : Type 0 where
  pub some : 1 ≤ length script.tasks
  pub few : length script.tasks ≤ most_tasks
  pub setup : script.setup ≡ script_setup (length script.tasks) script.setup.owners script.setup.exits
      (map (costs_of script.setup) script.tasks)
  pub few_ecbs : length script.setup.owners ≤ most_ecbs
  pub owners : AllByRecursion (λ owner. owner < length script.tasks) script.setup.owners
  pub few_exits : length script.setup.exits ≤ most_exits
  pub exits : AllByRecursion (IsSoundExit (sizes_of script)) script.setup.exits
  pub tasks : AllByRecursion (IsSoundTask (sizes_of script)) script.tasks
  pub light : sum script.setup.budgets ≤ events_limit
  pub table : IfThere (IsTableOf script.setup) script.table
