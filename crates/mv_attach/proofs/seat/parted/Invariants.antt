use Rattle.std.proofs.Common.{◌≡◌, ◌≤◌, ◌++◌, length, map, vec_capacity}
use Rattle.std.specs.Vec.Iter.{into_iter_items, into_iter_len}
use Rattle.mv_attach.specs.declared.seat.Seat.{Seat}
use Rattle.mv_attach.proofs.seat.parted.Given as goal

abbrev pub invariant-loop-seat : goal.invariant-loop-seat
invariant-loop-seat g l = record {
  yielded : l.yielded ++ into_iter_items l.seat-iterator ≡ into_iter_items l.initial.seat-iterator;
  count : into_iter_len l.seat-iterator ≡ length (into_iter_items l.seat-iterator);
  tasks : l.tasks.items ≡ map (λ (s : Seat g.row.S.Denot). s.task) l.yielded;
  rooms : l.rooms.items ≡ map (λ (s : Seat g.row.S.Denot). s.room) l.yielded;
  task_room : length l.fn.seats.items ≤ vec_capacity l.tasks;
  room_room : length l.fn.seats.items ≤ vec_capacity l.rooms;
}
