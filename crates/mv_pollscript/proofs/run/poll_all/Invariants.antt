use Rattle.std.proofs.Common.{◌≡◌, ◌<◌, ◌≤◌, length}
use Rattle.mv_pollscript.specs.Task.{AreTasksAt}
use Rattle.mv_pollscript.proofs.run.poll_all.Given as goal

abbrev pub invariant-loop : goal.invariant-loop
invariant-loop g l = record {
  count : length l.tasks.items ≡ length l.lists;
  place : l.place < length l.lists;
  tasks : AreTasksAt l.station l.table l.lists l.tasks.items;
  quiet : l.quiet ≤ l.count;
}
