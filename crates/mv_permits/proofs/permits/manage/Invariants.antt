use Rattle.std.proofs.Common.{◌≡◌, ◌+◌, ◌*◌, ◌≤◌, []}
use Rattle.mv_ordered.specs.Held.{held}
use Rattle.mv_permits.specs.Permits.{IsPooled}
use Rattle.mv_permits.proofs.permits.manage.Given as goal

abbrev pub invariant-loop-made : goal.invariant-loop-made
invariant-loop-made g l = record {
  ready : IsPooled l.station l.task;
  number : l.task.number ≡ l.fn.task.number;
  bare : held l.task.log ≡ [];
  left : 9 * l.calls ≤ l.task.left + 9 * l.made;
}
