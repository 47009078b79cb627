use Rattle.std.proofs.Common.{◌≡◌, ◌++◌, length, map}
use Rattle.std.specs.Vec.Iter.{into_iter_items, into_iter_len}
use Rattle.mv_board.specs.Faces.{part_of}
use Rattle.mv_board.proofs.board.Board.close.Given as goal

abbrev pub invariant-loop-caller : goal.invariant-loop-caller
invariant-loop-caller l = record {
  yielded : l.yielded ++ into_iter_items l.caller-iterator ≡ l.fn.callers.items;
  count : into_iter_len l.caller-iterator ≡ length (into_iter_items l.caller-iterator);
  board : l.closing.board ≡ l.fn.self;
  back : l.closing.back ≡ map part_of l.yielded;
}
