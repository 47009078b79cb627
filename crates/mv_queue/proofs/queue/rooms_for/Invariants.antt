use Rattle.std.proofs.Common.{◌≡◌, length}
use Rattle.std.specs.List.{AllByRecursion}
use Rattle.mv_attach.specs.Rooms.{HasRoom}
use Rattle.mv_queue.proofs.queue.rooms_for.Given as goal

abbrev pub invariant-loop-made : goal.invariant-loop-made
invariant-loop-made l = record {
  count : length l.rooms.items ≡ l.made;
  room : AllByRecursion (HasRoom l.wanted) l.rooms.items;
}
