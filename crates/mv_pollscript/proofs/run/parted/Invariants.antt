use Rattle.std.proofs.Common.{◌≡◌, ◌≤◌, ◌++◌, length, map, vec_capacity}
use Rattle.std.specs.Vec.Iter.{into_iter_items, into_iter_len}
use Rattle.mv_pollscript.specs.declared.task.ScriptTask.{ScriptTask}
use Rattle.mv_pollscript.proofs.run.parted.Given as goal

abbrev pub invariant-loop-one : goal.invariant-loop-one
invariant-loop-one l = record {
  yielded : l.yielded ++ into_iter_items l.one-iterator ≡ into_iter_items l.initial.one-iterator;
  count : into_iter_len l.one-iterator ≡ length (into_iter_items l.one-iterator);
  tasks : l.tasks.items ≡ map (λ (p : ScriptTask). p.task) l.yielded;
  lists : l.lists.items ≡ map (λ (p : ScriptTask). p.answers.items) l.yielded;
  tasks_room : length l.fn.polled.items ≤ vec_capacity l.tasks;
  lists_room : length l.fn.polled.items ≤ vec_capacity l.lists;
}
