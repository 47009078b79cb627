use Rattle.std.proofs.Common.{arith}
use Rattle.mv_board.proofs.board.Board.await_turn.Goals as goal

pub peek-requires : goal.peek-requires
peek-requires g c = let wide = c.self.invariant.words in omega arith
