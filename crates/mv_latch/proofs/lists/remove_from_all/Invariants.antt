-- The lists so far are purged, the others as they were. The wakes and the count are complete with those of the others.
use Rattle.std.proofs.Common.{◌≡◌, ◌+◌, ◌++◌, length, map, drop, vec_capacity}
use Rattle.std.specs.List.{flat_map}
use Rattle.mv_latch.specs.Request.{wake_of}
use Rattle.mv_latch.specs.Latch.{granted_by_purge}
use Rattle.mv_latch.specs.Queues.{items_of, capacities}
use Rattle.mv_latch.proofs.Purges.{ArePurgedTo}
use Rattle.mv_latch.proofs.lists.remove_from_all.Given as goal

abbrev pub invariant-loop-i : goal.invariant-loop-i
invariant-loop-i l = record {
  purged : ArePurgedTo l.requestor (items_of l.initial.lists) (items_of l.lists) l.i;
  counted : l.granted + length (flat_map (granted_by_purge l.requestor) (drop l.i (items_of l.initial.lists)))
      ≡ length (flat_map (granted_by_purge l.requestor) (items_of l.initial.lists));
  told : l.wakes.items ++ map (wake_of 0) (flat_map (granted_by_purge l.requestor) (drop l.i (items_of l.initial.lists)))
      ≡ l.initial.wakes.items ++ map (wake_of 0) (flat_map (granted_by_purge l.requestor) (items_of l.initial.lists));
  capacities : capacities l.lists ≡ capacities l.initial.lists;
  wakes_capacity : vec_capacity l.wakes ≡ vec_capacity l.initial.wakes;
}
