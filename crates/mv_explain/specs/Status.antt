-- The exit status of each way that an explanation can end, and its note.
use Rattle.std.specs.Prelude.{ℕ, Option, Some, None}
use Rattle.mv_ending.specs.declared.note.Note.{Note}
use Rattle.mv_ending.specs.declared.note.Note.TheVariants as note
use Rattle.mv_io.specs.declared.reading.ReadRefusal.{ReadRefusal}
use Rattle.mv_io.specs.declared.reading.ReadRefusal.TheVariants as reading
use Rattle.mv_explain.specs.declared.status.ExplainStatus.{ExplainStatus}
use Rattle.mv_explain.specs.declared.status.ExplainStatus.TheVariants.{Done, TooLong, ReadFailed, ReportFailed, JournalFailed}
use Rattle.mv_explain.specs.declared.status.ExplainStatus.TheVariants.{NoMemory}

-- the exit status of the process
abbrev pub exit_status : ExplainStatus → ℕ
exit_status Done = 0
exit_status TooLong = 4
exit_status ReadFailed = 5
exit_status ReportFailed = 6
exit_status JournalFailed = 7
exit_status NoMemory = 8

-- the note
abbrev pub note_of : ExplainStatus → Option Note
note_of Done = None
note_of TooLong = Some note.InputTooLong
note_of ReadFailed = Some note.ReadFailed
note_of ReportFailed = Some note.ReportFailed
note_of JournalFailed = Some note.JournalFailed
note_of NoMemory = Some note.NoMemory

-- the status of an input that was not read
abbrev pub of_read : ReadRefusal → ExplainStatus
of_read reading.Failed = ReadFailed
of_read reading.TooLong = TooLong
of_read reading.NoMemory = NoMemory
