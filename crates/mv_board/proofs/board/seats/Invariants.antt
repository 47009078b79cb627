use Rattle.std.proofs.Common.{◌≡◌, ◌+◌, [], length, vec_capacity}
use Rattle.mv_board.specs.Faces.{AreFresh}
use Rattle.mv_board.specs.View.{fresh_view}
use Rattle.mv_board.proofs.board.seats.Given as goal

abbrev pub invariant-loop-number : goal.invariant-loop-number
invariant-loop-number l = record {
  table : l.first.table_id ≡ l.initial.first.table_id;
  first : l.first.me ≡ (fresh_view l.config 0 l.number, []);
  others : AreFresh record { table = l.table.shared.table_id; config = l.config } 1 l.callers.items;
  counted : length l.callers.items + 1 ≡ l.number;
  room : vec_capacity l.callers ≡ l.config.callers;
}
