use Rattle.std.proofs.Common.{◌≡◌, ◌≤◌, ◌++◌, length, map, vec_capacity}
use Rattle.std.specs.List.{AllByRecursion}
use Rattle.std.specs.Vec.Iter.{into_iter_items, into_iter_len}
use Rattle.mv_pollscript.specs.Task.{IsNewTask}
use Rattle.mv_pollscript.specs.declared.task.ScriptTask.{ScriptTask}
use Rattle.mv_pollscript.proofs.run.all_new.Given as goal

abbrev pub invariant-loop-task : goal.invariant-loop-task
invariant-loop-task l = record {
  yielded : l.yielded ++ into_iter_items l.task-iterator ≡ into_iter_items l.initial.task-iterator;
  count : into_iter_len l.task-iterator ≡ length (into_iter_items l.task-iterator);
  new : AllByRecursion IsNewTask l.all.items;
  tasks : map (λ (p : ScriptTask). p.task) l.all.items ≡ l.yielded;
  room : length l.fn.tasks.items ≤ vec_capacity l.all;
}
