use Rattle.std.proofs.Common.{◌≡◌, ◌≤◌, ◌<◌, ℕ, [], get_or, length, vec_capacity}
use Rattle.mv_runscript.specs.Rooms.{HasRoom}
use Rattle.mv_runscript.proofs.room.rooms_for.Given as goal

abbrev pub invariant-loop-list : goal.invariant-loop-list
invariant-loop-list l = record {
  count : length l.rooms.items ≡ l.list-index;
  room : (k : ℕ) (d : _) → k < length l.rooms.items → HasRoom (get_or l.tasks k []) (get_or l.rooms.items k d);
  space : length l.tasks ≤ vec_capacity l.rooms;
}
