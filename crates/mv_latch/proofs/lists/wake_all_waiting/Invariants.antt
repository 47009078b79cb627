-- The wakes so far, and those of what is left, are all that are wanted.
use Rattle.std.proofs.Common.{◌≡◌, ◌++◌, map, drop, vec_capacity}
use Rattle.std.specs.List.{flat_map}
use Rattle.mv_latch.specs.Request.{wake_of}
use Rattle.mv_latch.specs.Latch.{waiting_of}
use Rattle.mv_latch.specs.Queues.{items_of}
use Rattle.mv_latch.proofs.lists.wake_all_waiting.Given as goal

abbrev pub invariant-loop-list : goal.invariant-loop-list
invariant-loop-list l = record {
  told : l.wakes.items ++ map (wake_of 1) (flat_map (waiting_of l.requestor) (items_of (drop l.list-index l.lists)))
      ≡ l.initial.wakes.items ++ map (wake_of 1) (flat_map (waiting_of l.requestor) (items_of l.lists));
  capacity : vec_capacity l.wakes ≡ vec_capacity l.initial.wakes;
}
