use Rattle.std.proofs.Common.{◌≡◌, [], ◌+◌, ◌*◌, ◌≤◌, length}
use Rattle.mv_ordered.specs.Held.{held}
use Rattle.mv_cache.specs.Whole.{IsWriting}
use Rattle.mv_cache.proofs.cache.write_all.Given as goal

abbrev pub invariant-loop-number : goal.invariant-loop-number
invariant-loop-number g l = record {
  ready : IsWriting l.station l.pairs l.task;
  bare : held l.task.log ≡ [];
  left : 5 * length l.pairs ≤ l.task.left + 5 * l.number;
}
