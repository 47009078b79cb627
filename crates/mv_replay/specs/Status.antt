-- The notes of each ending of a command on a journal.
use Rattle.std.specs.Prelude.{Option, Some, None}
use Rattle.mv_ending.specs.declared.note.Note.{Note}
use Rattle.mv_ending.specs.declared.note.Note.TheVariants as note
use Rattle.mv_io.specs.declared.reading.ReadRefusal.{ReadRefusal}
use Rattle.mv_io.specs.declared.reading.ReadRefusal.TheVariants as reading
use Rattle.mv_line.specs.declared.fault.TextRefusal.{TextRefusal}
use Rattle.mv_line.specs.declared.fault.TextRefusal.TheVariants as text
use Rattle.mv_replay.specs.declared.status.ReplayStatus.{ReplayStatus}
use Rattle.mv_replay.specs.declared.status.ReplayStatus.TheVariants.{Done, TooLong, ReadFailed, ReportFailed, NoMemory, Illegal, Text}

-- the line on the notes
abbrev pub note_of : ReplayStatus → Option Note
note_of Done = None
note_of TooLong = Some note.InputTooLong
note_of ReadFailed = Some note.ReadFailed
note_of ReportFailed = Some note.ReportFailed
note_of NoMemory = Some note.NoMemory
note_of (Illegal line) = Some (note.Illegal line)
note_of (Text f) = Some (note.JournalFault f.line f.kind)

-- the status of an input that could not be read
abbrev pub of_read : ReadRefusal → ReplayStatus
of_read reading.Failed = ReadFailed
of_read reading.TooLong = TooLong
of_read reading.NoMemory = NoMemory

-- the status of a text that could not be read as a journal
abbrev pub of_text : TextRefusal → ReplayStatus
of_text (text.Fault f) = Text f
of_text text.NoMemory = NoMemory
