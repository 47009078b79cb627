-- What contracts see of a board that ends, and its invariant.
use Rattle.std.specs.Prelude.{◌≡◌, ◌≤◌, List, [], map, vec_capacity, Option, Some, None}
use Rattle.atomic_table.specs.declared.shared.Seat.{Seat}
use Rattle.atomic_table.specs.Seated.{TableId}
use Rattle.mv_config.specs.Check.{IsValid}
use Rattle.mv_machine.specs.Room.{IsRoomFor}
use Rattle.mv_board.specs.declared.closing.Closing.TheInside.{Inside}
use Rattle.mv_board.specs.declared.item.Item.{Item}
use Rattle.mv_board.specs.declared.view.Part.{Part}
use Rattle.mv_board.specs.declared.view.View.{View}
use Rattle.mv_board.specs.Faces.{ClosingFace, AreNumbered, log_of}
use Rattle.mv_board.specs.Words.{word_count}

-- the parts in a seat's view; none if there is no seat
abbrev pub held : Option (Seat Item View) → List Part
held None = []
held (Some seat) = seat.me.0.parts

-- the board that ends, and the parts of the callers that came back
abbrev pub closing_of : Inside → ClosingFace
closing_of b = record { board = record { table = b.table.shared.table_id; config = b.config }; back = held b.seat }

-- the seat, if there is one, is of this table
abbrev pub IsSeatAt : TableId → Option (Seat Item View) → Type 0
IsSeatAt t None = Unit {0}
IsSeatAt t (Some seat) = seat.table_id ≡ t

-- The invariant of a board that ends: the table is that of the configuration, and the room for the merge is there. The callers
-- that came back are numbered from 0 on. `logs` has their logs, and room for those of all callers.
pub record IsClosing (b : Inside) : Type 0 where
  pub key : b.table.shared.key ≡ b.config
  pub valid : IsValid b.config
  pub words : b.table.shared.table_id.words ≡ word_count b.config
  pub slots : b.table.shared.table_id.slots ≡ 1
  pub room : IsRoomFor b.config b.room
  pub seat : IsSeatAt b.table.shared.table_id b.seat
  pub numbered : AreNumbered 0 (held b.seat)
  pub logs : b.logs.items ≡ map log_of (held b.seat)
  pub space : b.config.callers ≤ vec_capacity b.logs
