use Rattle.std.proofs.Common.{◌≡◌, ◌+◌, ◌*◌, ◌≤◌, [], vec_capacity}
use Rattle.mv_ordered.specs.Held.{held}
use Rattle.mv_queue.specs.Queue.{IsReady, went_in, came_out}
use Rattle.mv_queue.proofs.queue.take_all.Given as goal

abbrev pub invariant-loop-tried : goal.invariant-loop-tried
invariant-loop-tried g l = record {
  ready : IsReady l.station l.task;
  number : l.task.number ≡ l.fn.task.number;
  bare : held l.task.log ≡ [];
  taken : l.got.items ≡ came_out l.task.log;
  put : went_in l.task.log ≡ went_in l.fn.task.log;
  space : l.wanted ≤ vec_capacity l.got;
  left : 10 * l.tries ≤ l.task.left + 10 * l.tried;
}
