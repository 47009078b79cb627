-- The lists so far are empty, and have their room.
use Rattle.std.proofs.Common.{◌≡◌, ◌*◌, [], replicate}
use Rattle.mv_latch.specs.Queues.{items_of, HaveRoom}
use Rattle.mv_latch.proofs.latch_set.LatchSet.new.Given as goal

abbrev pub invariant-loop : goal.invariant-loop
invariant-loop l = record {
  empty : items_of l.lists.items ≡ replicate l.counter [];
  room : HaveRoom (l.callers * l.quota) l.lists.items;
}
