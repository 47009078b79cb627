-- How many events of a journal each task made.
use Rattle.std.specs.Prelude.{ℕ, zero, suc, ◌+◌, ◌-◌, ◌==◌, List, [], ◌++◌, count_by, codes, decimal}
use Rattle.mv_machine.specs.declared.entry.Entry.{Entry}
use Rattle.mv_explain.specs.declared.sentences.TheConstants.{BY_TASK, MADE}

-- how many events a task made
unfoldable pub one_task_text : List Entry → ℕ → List ℕ
one_task_text es task = (BY_TASK.now ++ decimal task) ++ (MADE.now ++ decimal (count_by (λ e. e.caller == task) es)) ++ codes "\n"

-- the same of `count` tasks, from one on
abbrev pub by_task_text : List Entry → (from count : ℕ) → List ℕ
by_task_text es from zero = []
by_task_text es from (suc count) = one_task_text es from ++ by_task_text es (from + 1) count

-- the same of each task from one on, of `tasks` in all
abbrev pub from_task_text : List Entry → (from tasks : ℕ) → List ℕ
from_task_text es from tasks = by_task_text es from (tasks - from)
