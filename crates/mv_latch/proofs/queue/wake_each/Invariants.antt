-- The wakes so far, and those of what is left, are all that are wanted.
use Rattle.std.proofs.Common.{◌≡◌, ◌++◌, map, drop, vec_capacity}
use Rattle.mv_latch.specs.Request.{wake_of}
use Rattle.mv_latch.proofs.queue.wake_each.Given as goal

abbrev pub invariant-loop-request : goal.invariant-loop-request
invariant-loop-request l = record {
  told : l.wakes.items ++ map (wake_of l.code) (drop l.request-index l.requests) ≡ l.initial.wakes.items ++ map (wake_of l.code) l.requests;
  capacity : vec_capacity l.wakes ≡ vec_capacity l.initial.wakes;
}
