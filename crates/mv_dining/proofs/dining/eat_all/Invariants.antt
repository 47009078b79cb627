use Rattle.std.proofs.Common.{◌≡◌, ◌+◌, ◌*◌, ◌≤◌, []}
use Rattle.mv_ordered.specs.Held.{held}
use Rattle.mv_dining.specs.Dining.{IsDining}
use Rattle.mv_dining.proofs.dining.eat_all.Given as goal

abbrev pub invariant-loop-had : goal.invariant-loop-had
invariant-loop-had g l = record {
  ready : IsDining l.station l.task;
  number : l.task.number ≡ l.fn.task.number;
  left : 6 * l.meals ≤ l.task.left + 6 * l.had;
  none : held l.task.log ≡ [];
}
