-- The budgets in a history that follows the plan: no task makes more events than its budget, and one is left if the task's
-- program has one more event.
use Rattle.std.specs.Prelude.{◌≡◌, ℕ, ◌+◌, ◌<◌, List, length, slice_index, Some}
use Rattle.mv_machine.specs.declared.entry.Entry.{Entry}
use Rattle.mv_machine.specs.declared.entry.Object.{Object}
use Rattle.mv_machine.specs.declared.entry.Op.{Op}
use Rattle.mv_machine.specs.Legal.{of}
use Rattle.mv_machine.specs.Parts.{KeepsBudgets}
use Rattle.mv_calls.specs.Program.{asks}
use Rattle.mv_calls.specs.Runs.{left_in}
use Rattle.mv_deck.specs.Deck.{JobData}
use Rattle.mv_plan.specs.SpoolSetup.{spool_setup, task_budgets}
use Rattle.mv_plan.specs.SpoolTasks.{task_program}

-- no task is ever stopped by its budget
pub record IsWithinBudgets (deck : List JobData) (initiators : ℕ) (es : List Entry) : Type 0 where
  -- no caller has made more events than its budget
  pub made : KeepsBudgets (spool_setup deck initiators) es
  -- each caller whose program has one more event has one left
  pub next : (k : ℕ) (object : Object) (op : Op) → k < initiators + 3
      → asks (left_in (spool_setup deck initiators) (task_program deck initiators) k es) ≡ Some (object, op)
      → length (of k es) < slice_index (task_budgets deck initiators) k
