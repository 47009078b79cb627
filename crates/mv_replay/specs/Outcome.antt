-- What a replay and a conversion write, and the contents of their streams after each ending.
use Rattle.std.specs.Prelude.{◌≡◌, ℕ, ◌<◌, ◌≤◌, List, ◌++◌, length, codes, decimal, Option, Some, IfSome}
use Rattle.mv_io.specs.Sink.{Appends, AppendsFront}
use Rattle.mv_ending.specs.Ending.{EndsAs}
use Rattle.mv_ending.specs.Input.{IsWhole, IsTooLong, IsCut, IsAllOrNothing}
use Rattle.mv_ending.specs.Written.{Extent, Nothing, PartOfReport, Everything}
use Rattle.mv_calls.specs.Numbers.{calls}
use Rattle.mv_operationtext.specs.declared.version.Version.TheVariants.{Two}
use Rattle.mv_entrytext.specs.Fault.{StatesJournal, text_fault}
use Rattle.mv_replay.specs.declared.command.JournalCommand.{JournalCommand}
use Rattle.mv_replay.specs.declared.command.JournalCommand.TheVariants.{Replay, Convert}
use Rattle.mv_replay.specs.declared.status.ReplayStatus.{ReplayStatus}
use Rattle.mv_replay.specs.declared.status.ReplayStatus.TheVariants.{Done, TooLong, ReadFailed, ReportFailed, NoMemory, Illegal, Text}
use Rattle.mv_replay.specs.Judgement.{journal_limit, IsLegalJournal, IsIllegalAt}

-- ---- the reports on a legal journal

-- the line with the number of events
unfoldable pub legal_text : ℕ → List ℕ
legal_text count = codes "LEGAL " ++ decimal count ++ codes " EVENTS\n"

-- the report of a replay: the line with the number of events
pub record IsReplayReport (input report : List ℕ) : Type 0 where
  pub count : ℕ
  pub legal : IsLegalJournal input count
  pub reported : report ≡ legal_text count

-- the report of a conversion: the text in version 2 that states the same configuration and entries, with the machine's call
-- numbers
pub record IsConversion (input report : List ℕ) : Type 0 where
  pub count : ℕ
  pub legal : IsLegalJournal input count
  pub reported : StatesJournal report Two legal.setup legal.entries (calls legal.setup legal.entries)

-- the report of each command
abbrev pub reports_of : JournalCommand → List ℕ → List ℕ → Type 0
reports_of Replay = IsReplayReport
reports_of Convert = IsConversion

-- ---- the ending that an input calls for

-- the ending that a text calls for by its contents
abbrev pub IsFound : List ℕ → ReplayStatus → Type 0
IsFound bytes Done = (count : ℕ) × IsLegalJournal bytes count
IsFound bytes (Illegal line) = IsIllegalAt bytes line
IsFound bytes (Text fault) = text_fault bytes ≡ Some fault
IsFound bytes _ = ⊥

-- the ending that an input calls for, if no stream fails and there is enough memory
abbrev pub Asks : List ℕ → ReplayStatus → Type 0
Asks bytes TooLong = journal_limit < length bytes
Asks bytes status = (length bytes ≤ journal_limit) × IsFound bytes status

-- the same of a status that is returned as an error: the text calls for it, or memory ran out
abbrev pub IsAsked : List ℕ → ReplayStatus → Type 0
IsAsked bytes NoMemory = Unit {0}
IsAsked bytes Done = ⊥
IsAsked bytes status = Asks bytes status

-- how a command has to end: if reading did not fail, and writing did not fail if there is a report to write, it ends as the
-- input calls for, or out of memory
abbrev pub Owes : (read wrote : Type 0) → (input : Option (List ℕ)) → ReplayStatus → Type 0
Owes read wrote input status = ¬ read → IfSome input (λ bytes. (wanted : ReplayStatus) → Asks bytes wanted
    → (wanted ≡ Done → ¬ wrote) → EndsAs NoMemory status wanted)

-- ---- the input, and what is left of it after a command

-- What the input was, if its source shows its bytes, and what is left of it, after each status. After a status that has no line of
-- its own, the input was read to its end, and it is what the status says.
abbrev pub InputOf : ReplayStatus → Option (List ℕ) → Option (List ℕ) → Type 0
InputOf TooLong old new = IfSome old (λ bytes. IsTooLong journal_limit bytes new)
InputOf ReadFailed old new = IfSome old (λ bytes. IsCut journal_limit bytes new)
InputOf NoMemory old new = IsAllOrNothing journal_limit old new
InputOf ReportFailed old new = IfSome old (λ bytes. IsWhole journal_limit bytes new × IsFound bytes Done)
InputOf found old new = IfSome old (λ bytes. IsWhole journal_limit bytes new × IsFound bytes found)

-- ---- the report after a command

-- The contents of the report's sink after each status of a command with such reports. What this says of an input, it says only
-- if the source shows the input's bytes.
abbrev pub ReportAfter : (List ℕ → List ℕ → Type 0) → ReplayStatus → (input old new : Option (List ℕ)) → Type 0
ReportAfter Reports Done input old new =
    IfSome input (λ bytes. (report : List ℕ) × Reports bytes report × Appends old new report)
ReportAfter Reports ReportFailed input old new =
    IfSome input (λ bytes. (report : List ℕ) × Reports bytes report × AppendsFront old new report)
ReportAfter Reports _ input old new = new ≡ old

-- how the writing of a report ends: well, or with a prefix of the report written
abbrev pub Writes : ReplayStatus → (old new : Option (List ℕ)) → (report : List ℕ) → Type 0
Writes Done old new report = Appends old new report
Writes ReportFailed old new report = AppendsFront old new report
Writes _ old new report = ⊥

-- how much of the report was written
abbrev pub extent_of : ReplayStatus → Extent
extent_of Done = Everything
extent_of ReportFailed = PartOfReport
extent_of TooLong = Nothing
extent_of ReadFailed = Nothing
extent_of NoMemory = Nothing
extent_of (Illegal line) = Nothing
extent_of (Text fault) = Nothing
