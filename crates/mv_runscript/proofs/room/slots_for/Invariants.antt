use Rattle.std.proofs.Common.{◌≡◌, length}
use Rattle.mv_runscript.specs.Making.{HaveSlots}
use Rattle.mv_runscript.proofs.room.slots_for.Given as goal

abbrev pub invariant-loop-made : goal.invariant-loop-made
invariant-loop-made l = record {
  count : length l.rooms.items ≡ l.made;
  slots : HaveSlots l.rooms.items;
}
