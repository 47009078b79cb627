-- The wakes so far, and those of what is left, are all that are wanted.
use Rattle.std.proofs.Common.{◌≡◌, ◌++◌, map, filter, drop, vec_capacity}
use Rattle.mv_latch.specs.Request.{of_requestor, wake_of}
use Rattle.mv_latch.specs.Latch.{waiting_of}
use Rattle.mv_latch.proofs.queue.wake_waiting.Given as goal

abbrev pub invariant-loop-request : goal.invariant-loop-request
invariant-loop-request l = record {
  told : l.wakes.items ++ map (wake_of 1) (filter (of_requestor l.requestor) (drop l.request-index l.request-items)) ≡ l.initial.wakes.items
      ++ map (wake_of 1) (waiting_of l.requestor l.list);
  capacity : vec_capacity l.wakes ≡ vec_capacity l.initial.wakes;
}
