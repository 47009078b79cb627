use Rattle.std.proofs.Common.{◌≡◌, ◌+◌, ◌*◌, ◌≤◌}
use Rattle.mv_counter.specs.Counter.{IsReady}
use Rattle.mv_counter.proofs.counter.add_all.Given as goal

abbrev pub invariant-loop-added : goal.invariant-loop-added
invariant-loop-added g l = record {
  ready : IsReady l.station l.task;
  number : l.task.number ≡ l.fn.task.number;
  left : 5 * l.times ≤ l.task.left + 5 * l.added;
}
