-- What contracts see of a board, and its invariant.
use Rattle.std.specs.Prelude.{◌≡◌, ◌≤◌, [], vec_capacity}
use Rattle.mv_config.specs.Check.{IsValid}
use Rattle.mv_machine.specs.Room.{IsRoomFor}
use Rattle.mv_board.specs.declared.board.Board.TheInside.{Inside}
use Rattle.mv_board.specs.Faces.{BoardFace}
use Rattle.mv_board.specs.Words.{word_count}

-- a board's table, and the configuration that it was opened with
abbrev pub board_of : Inside → BoardFace
board_of b = record { table = b.table.shared.table_id; config = b.config }

-- the invariant of a board: its table is that of its configuration, with a word for each object and one slot for the lists; and
-- `close` has the room that it needs for the history and for the callers' logs
pub record IsOpen (b : Inside) : Type 0 where
  pub key : b.table.shared.key ≡ b.config
  pub valid : IsValid b.config
  pub words : b.table.shared.table_id.words ≡ word_count b.config
  pub slots : b.table.shared.table_id.slots ≡ 1
  pub room : IsRoomFor b.config b.room
  pub logs : (b.logs.items ≡ []) × (b.config.callers ≤ vec_capacity b.logs)
