use Rattle.std.proofs.Common.{◌≡◌, ◌≤◌, ◌++◌, length, map, vec_capacity}
use Rattle.std.specs.Vec.Iter.{into_iter_items, into_iter_len}
use Rattle.mv_attach.specs.declared.seat.Seat.{Seat}
use Rattle.mv_attach.proofs.seat.seated.Given as goal

abbrev pub invariant-loop-task : goal.invariant-loop-task
invariant-loop-task g l = record {
  yielded : l.yielded ++ into_iter_items l.task-iterator ≡ into_iter_items l.initial.task-iterator;
  count : into_iter_len l.task-iterator ≡ length (into_iter_items l.task-iterator);
  tasks : map (λ (s : Seat g.row.S.Denot). s.task) l.seats.items ≡ l.yielded;
  rooms : map (λ (s : Seat g.row.S.Denot). s.room) l.seats.items ++ into_iter_items l.rooms ≡ l.fn.rooms.items;
  rooms_count : into_iter_len l.rooms ≡ length (into_iter_items l.rooms);
  room : length l.fn.tasks.items ≤ vec_capacity l.seats;
}
