-- What the streams hold after each way that an explanation can end, and how it has to end.
use Rattle.std.specs.Prelude.{◌≡◌, ℕ, ◌<◌, ◌≤◌, List, length, Option, IfSome}
use Rattle.mv_io.specs.Sink.{Appends, AppendsFront}
use Rattle.mv_ending.specs.Ending.{EndsAs}
use Rattle.mv_ending.specs.Input.{IsWhole, IsTooLong, IsCut, IsAllOrNothing}
use Rattle.mv_ending.specs.Written.{Extent, Nothing, PartOfReport, PartOfJournal, Everything}
use Rattle.mv_explain.specs.declared.status.ExplainStatus.{ExplainStatus}
use Rattle.mv_explain.specs.declared.status.ExplainStatus.TheVariants.{Done, TooLong, ReadFailed, ReportFailed, JournalFailed}
use Rattle.mv_explain.specs.declared.status.ExplainStatus.TheVariants.{NoMemory}
use Rattle.mv_explain.specs.Explained.{IsExplained}

-- the most bytes of an input: those of a journal
abbrev pub input_limit : ℕ
input_limit = 67_108_864

-- what the input was, where its source told it, and what is left of it, after each status; an explanation has no journal
abbrev pub InputOf : ExplainStatus → Option (List ℕ) → Option (List ℕ) → Type 0
InputOf Done old new = IfSome old (λ bytes. IsWhole input_limit bytes new)
InputOf ReportFailed old new = IfSome old (λ bytes. IsWhole input_limit bytes new)
InputOf TooLong old new = IfSome old (λ bytes. IsTooLong input_limit bytes new)
InputOf ReadFailed old new = IfSome old (λ bytes. IsCut input_limit bytes new)
InputOf NoMemory old new = IsAllOrNothing input_limit old new
InputOf JournalFailed old new = ⊥

-- what the sink of the report holds after each status: an explanation of the input, where that was told, or a front of one
abbrev pub ReportAfter : ExplainStatus → (input old new : Option (List ℕ)) → Type 0
ReportAfter Done input old new = IfSome input (λ bytes. (text : List ℕ) × IsExplained bytes text × Appends old new text)
ReportAfter ReportFailed input old new = IfSome input (λ bytes. (text : List ℕ) × IsExplained bytes text × AppendsFront old new text)
ReportAfter _ input old new = new ≡ old

-- the writing of a text ends in one of two ways
abbrev pub Writes : ExplainStatus → (old new : Option (List ℕ)) → (text : List ℕ) → Type 0
Writes Done old new text = Appends old new text
Writes ReportFailed old new text = AppendsFront old new text
Writes _ old new text = ⊥

-- how much of it was written
abbrev pub extent_of : ExplainStatus → Extent
extent_of Done = Everything
extent_of ReportFailed = PartOfReport
extent_of TooLong = Nothing
extent_of ReadFailed = Nothing
extent_of NoMemory = Nothing
extent_of JournalFailed = PartOfJournal

-- the ending that an input asks for, where no stream fails and memory is there
abbrev pub Asks : List ℕ → ExplainStatus → Type 0
Asks bytes Done = length bytes ≤ input_limit
Asks bytes TooLong = input_limit < length bytes
Asks bytes _ = ⊥

-- the ending that is owed: where reading did not fail, and writing did not where there is something to write, it is the one that the
-- input asks for, or want of memory
abbrev pub Owes : (read wrote : Type 0) → (input : Option (List ℕ)) → ExplainStatus → Type 0
Owes read wrote input status = ¬ read → IfSome input (λ bytes. (wanted : ExplainStatus) → Asks bytes wanted
    → (wanted ≡ Done → ¬ wrote) → EndsAs NoMemory status wanted)
