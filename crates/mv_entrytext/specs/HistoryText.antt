-- The text of a history, which is made piece by piece as it is written.
use Rattle.std.specs.Prelude.{◌≡◌, ℕ, ◌<◌, ◌≤◌, ◌^◌, List, [], ◌++◌, length, vec_capacity}
use Rattle.std.specs.List.{flat_map}
use Rattle.std.specs.declared.option.Option.{Option}
use Rattle.mv_io.specs.Sink.{Appends}
use Rattle.mv_machine.specs.declared.entry.Entry.{Entry}
use Rattle.mv_machine.specs.Legal.{Legal}
use Rattle.mv_config.specs.Setup.{Setup}
use Rattle.mv_calls.specs.Counters.{HasCounted}
use Rattle.mv_calls.specs.Numbers.{calls}
use Rattle.mv_entrytext.specs.declared.history_text.HistoryText.TheInside.{Inside}
use Rattle.mv_operationtext.specs.declared.version.Version.TheVariants.{Two}
use Rattle.mv_entrytext.specs.Journal.{entry_lines, head_text, journal_text, line}

-- the most bytes of a piece, unless it is the head
abbrev pub piece_size : ℕ
piece_size = 65536

-- the text of a history up to the lines of these entries
abbrev pub text_up_to : Setup → List Entry → List ℕ
text_up_to c es = head_text Two c ++ flat_map line (entry_lines es (calls c es))

-- the text that will be written
abbrev pub text_of_history : Inside → List ℕ
text_of_history x = journal_text x.history.config x.history.coming

-- nothing is written yet: the piece is the head, with room for any other piece
pub record IsUnwritten (x : Inside) : Type 0 where
  pub whole : x.history.past ≡ []
  pub legal : Legal x.history.config x.history.coming
  pub few : length x.history.coming < 2 ^ 32
  pub counted : HasCounted x.history.config [] x.counters
  pub head : x.piece.items ≡ head_text Two x.history.config
  pub room : piece_size ≤ vec_capacity x.piece

-- what a sink has taken from its state `old` to its state `new`, followed by the piece, is the text
pub record IsWrittenSoFar (old new : Option (List ℕ)) (piece text : List ℕ) : Type 0 where
  pub taken : List ℕ
  pub appended : Appends old new taken
  pub whole : taken ++ piece ≡ text
