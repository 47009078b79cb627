use Rattle.std.proofs.Common.{◌≡◌}
use Rattle.mv_board.specs.Steps.{Meets, LooksOn}
use Rattle.mv_board.proofs.board.Board.exchange.Given as goal

abbrev pub invariant-loop : goal.invariant-loop
invariant-loop g l = record {
  table : l.seat.table_id ≡ l.initial.seat.table_id;
  slots : l.seat.me.1 ≡ l.initial.seat.me.1;
  looks : LooksOn l.fn.seat.me.0 l.object l.seat.me.0;
  meets : Meets l.fn.seat.me.0 l.object l.seen;
}
