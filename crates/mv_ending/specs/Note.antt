-- The line of each note, and what the notes have after it was written.
use Rattle.std.specs.Prelude.{◌≡◌, ℕ, ◌⊎◌, List, ◌++◌, codes, decimal, Option, Some, None}
use Rattle.mv_io.specs.Fault.{Rose}
use Rattle.mv_io.specs.Sink.{Appends, AppendsFront}
use Rattle.mv_ending.specs.declared.note.Note.{Note}
use Rattle.mv_ending.specs.declared.note.Note.TheVariants.{Usage, DeckFault, InputTooLong, ReadFailed, ReportFailed}
use Rattle.mv_ending.specs.declared.note.Note.TheVariants.{JournalFailed, NoMemory, Illegal, JournalFault, ScriptFault}

-- the line of a fault: `word` names the input, and then come the line at fault and the number of the fault's kind
unfoldable pub fault_text : List ℕ → ℕ → ℕ → List ℕ
fault_text word line kind = word ++ codes "LINE " ++ decimal line ++ codes " KIND " ++ decimal kind ++ codes "\n"

-- the line of a note, with LF
abbrev pub note_text : Note → List ℕ
note_text Usage = codes "USAGE: spool I, script, replay, convert, load N I, polled I S\n"
note_text (DeckFault line kind) = fault_text (codes "DECK ") line kind
note_text InputTooLong = codes "INPUT TOO LONG\n"
note_text ReadFailed = codes "READ FAILED\n"
note_text ReportFailed = codes "REPORT FAILED\n"
note_text JournalFailed = codes "JOURNAL FAILED\n"
note_text NoMemory = codes "NO MEMORY\n"
note_text (Illegal line) = codes "ILLEGAL AT LINE " ++ decimal line ++ codes "\n"
note_text (JournalFault line kind) = fault_text (codes "JOURNAL ") line kind
note_text (ScriptFault line kind) = fault_text (codes "SCRIPT ") line kind

-- the notes after a note was written: its line was appended, or a prefix of it if the sink's count of faults rose; without a note
-- nothing was written
abbrev pub NotesAfter : Option Note → ℕ → ℕ → Option (List ℕ) → Option (List ℕ) → Type 0
NotesAfter None before now old new = new ≡ old
NotesAfter (Some note) before now old new =
    Appends old new (note_text note) ⊎ (Rose before now × AppendsFront old new (note_text note))
