-- The exit status and the note of each ending.
use Rattle.std.specs.Prelude.{ℕ, Option, Some, None}
use Rattle.mv_ending.specs.declared.note.Note.{Note}
use Rattle.mv_ending.specs.declared.note.Note.TheVariants as note
use Rattle.mv_io.specs.declared.reading.ReadRefusal.{ReadRefusal}
use Rattle.mv_io.specs.declared.reading.ReadRefusal.TheVariants as reading
use Rattle.mv_replay.specs.declared.status.ReplayStatus.{ReplayStatus}
use Rattle.mv_replay.specs.declared.status.ReplayStatus.TheVariants as replay
use Rattle.mv_program.specs.declared.status.Status.{Status}
use Rattle.mv_program.specs.declared.status.Status.TheVariants.{Done, Words, Deck, TooLong, ReadFailed, ReportFailed}
use Rattle.mv_program.specs.declared.status.Status.TheVariants.{JournalFailed, NoMemory, Illegal, Text}
use Rattle.mv_program.specs.declared.status.Status.TheVariants.{Script}

-- the exit status of the process
abbrev pub exit_status : Status → ℕ
exit_status Done = 0
exit_status Words = 2
exit_status (Deck f) = 3
exit_status TooLong = 4
exit_status ReadFailed = 5
exit_status ReportFailed = 6
exit_status JournalFailed = 7
exit_status NoMemory = 8
exit_status (Script f) = 9
exit_status (Illegal line) = 10
exit_status (Text f) = 11

-- the line on the notes
abbrev pub note_of : Status → Option Note
note_of Done = None
note_of Words = Some note.Usage
note_of (Deck f) = Some (note.DeckFault f.line f.kind)
note_of TooLong = Some note.InputTooLong
note_of ReadFailed = Some note.ReadFailed
note_of ReportFailed = Some note.ReportFailed
note_of JournalFailed = Some note.JournalFailed
note_of NoMemory = Some note.NoMemory
note_of (Script f) = Some (note.ScriptFault f.line f.kind)
note_of (Illegal line) = Some (note.Illegal line)
note_of (Text f) = Some (note.JournalFault f.line f.kind)

-- the ending of a command on a journal that a status represents, if it represents one
abbrev pub replay_of : Status → Option ReplayStatus
replay_of Done = Some replay.Done
replay_of TooLong = Some replay.TooLong
replay_of ReadFailed = Some replay.ReadFailed
replay_of ReportFailed = Some replay.ReportFailed
replay_of NoMemory = Some replay.NoMemory
replay_of (Illegal line) = Some (replay.Illegal line)
replay_of (Text f) = Some (replay.Text f)
replay_of _ = None

-- the status of an input that could not be read
abbrev pub of_read : ReadRefusal → Status
of_read reading.Failed = ReadFailed
of_read reading.TooLong = TooLong
of_read reading.NoMemory = NoMemory
