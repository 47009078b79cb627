use Rattle.std.proofs.Common.{◌≡◌, ◌+◌, ◌*◌, ◌≤◌, false, []}
use Rattle.mv_ordered.specs.Held.{held}
use Rattle.mv_permits.specs.Permits.{IsPooled, has_permit, given_back}
use Rattle.mv_permits.proofs.permits.work_shifts.Given as goal

abbrev pub invariant-loop-tried : goal.invariant-loop-tried
invariant-loop-tried g l = record {
  ready : IsPooled l.station l.task;
  number : l.task.number ≡ l.fn.task.number;
  bare : held l.task.log ≡ [];
  none : has_permit l.task.log ≡ false;
  given : given_back l.task.log ≡ given_back l.fn.task.log + l.worked;
  left : 14 * l.tries + 1 ≤ l.task.left + 14 * l.tried;
  few : l.worked ≤ l.tried;
}
