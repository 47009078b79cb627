use Rattle.std.proofs.Common.{◌≡◌, ◌≤◌, ◌++◌, length, map, vec_capacity}
use Rattle.std.specs.Vec.Iter.{into_iter_items, into_iter_len}
use Rattle.mv_runscript.specs.declared.room.Room.{Room}
use Rattle.mv_runscript.proofs.run.lists_of.Given as goal

abbrev pub invariant-loop-room : goal.invariant-loop-room
invariant-loop-room l = record {
  yielded : l.yielded ++ into_iter_items l.room-iterator ≡ into_iter_items l.initial.room-iterator;
  count : into_iter_len l.room-iterator ≡ length (into_iter_items l.room-iterator);
  answers : l.lists.items ≡ map (λ (r : Room). r.answers.items) l.yielded;
  room : length l.fn.rooms.items ≤ vec_capacity l.lists;
}
