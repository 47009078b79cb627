-- The ending and the texts that an input calls for under each command, and the contents of the streams after each ending. What
-- a definition says of an input, it says only if the source shows the input's bytes.
use Rattle.std.specs.Prelude.{if◌then◌else◌, ◌≡◌, ℕ, ◌<◌, ◌≤◌, Bool, true, false, List, [], length, Option, Some, None, IfSome, IsSomeAnd}
use Rattle.mv_deck.specs.Deck.{deck_of}
use Rattle.mv_deck.specs.Fault.{first_fault}
use Rattle.mv_deck.specs.Load.{load_jobs}
use Rattle.mv_ending.specs.Input.{IsWhole, IsTooLong, IsCut, IsAllOrNothing}
use Rattle.mv_ending.specs.Written.{Extent, Nothing, PartOfReport, PartOfJournal, Everything, Wrote, WroteOf}
use Rattle.mv_replay.specs.Outcome as replay
use Rattle.mv_report.specs.Summary.{load_summary}
use Rattle.mv_script.specs.Fault as scripts
use Rattle.mv_script.specs.Script.{script_of}
use Rattle.mv_program.specs.declared.command.Command.{Command}
use Rattle.mv_program.specs.declared.command.Command.TheVariants.{Spool, Load, Journal, Polled}
use Rattle.mv_program.specs.declared.command.Command.TheVariants as asked
use Rattle.mv_program.specs.declared.status.Status.{Status}
use Rattle.mv_program.specs.declared.status.Status.TheVariants.{Done, Deck, TooLong, ReadFailed, ReportFailed}
use Rattle.mv_program.specs.declared.status.Status.TheVariants.{JournalFailed, NoMemory}
use Rattle.mv_program.specs.declared.status.Status.TheVariants.{Script}
use Rattle.mv_program.specs.Texts.{deck_limit, report_of, IsJournalOfRun, IsRunOfScript}
use Rattle.mv_program.specs.Status.{replay_of}

-- ---- the ending that an input calls for under a command, if no stream fails and there is enough memory

-- the ending that a deck for n initiators calls for by its contents
abbrev pub IsFound : ℕ → List ℕ → Status → Type 0
IsFound n input Done = first_fault input n ≡ None
IsFound n input (Deck fault) = first_fault input n ≡ Some fault
IsFound n input _ = ⊥

-- the ending that a script calls for by its contents
abbrev pub IsScriptFound : List ℕ → Status → Type 0
IsScriptFound input Done = scripts.first_fault input ≡ None
IsScriptFound input (Script fault) = scripts.first_fault input ≡ Some fault
IsScriptFound input _ = ⊥

-- the ending that a deck or a script calls for, by its length and its contents
abbrev pub TextAsks : (List ℕ → Status → Type 0) → List ℕ → Status → Type 0
TextAsks Found input TooLong = deck_limit < length input
TextAsks Found input status = (length input ≤ deck_limit) × Found input status

-- the ending that an input calls for under each command
abbrev pub Asks : Command → List ℕ → Status → Type 0
Asks (Spool n) input status = TextAsks (IsFound n) input status
Asks (Load jobs n) input status = status ≡ Done
Asks asked.Script input status = TextAsks IsScriptFound input status
Asks (Journal command) input status = IsSomeAnd (replay_of status) (λ s. replay.Asks input s)
Asks (Polled n seed) input status = TextAsks (IsFound n) input status

-- ---- the texts that a command makes of an input, if all goes well: its report and its journal

-- the report of a deck, and the journal of a run of it with n initiators
pub record TellsRun (n : ℕ) (input report journal : List ℕ) : Type 0 where
  pub reported : report ≡ report_of input
  pub run : IsJournalOfRun (deck_of input) n journal

-- the summary of a load, and the journal of a run of its jobs with n initiators
pub record TellsLoad (jobs n : ℕ) (report journal : List ℕ) : Type 0 where
  pub reported : report ≡ load_summary jobs n
  pub run : IsJournalOfRun (load_jobs jobs) n journal

-- the answers of a script, and the journal of the same run of it
pub record TellsScript (input report journal : List ℕ) : Type 0 where
  pub run : IsRunOfScript (script_of input) report journal

-- a report of this kind on a journal, and no journal
pub record TellsReport (Reports : List ℕ → List ℕ → Type 0) (input report journal : List ℕ) : Type 0 where
  pub reported : Reports input report
  pub none : journal ≡ []

-- the texts that each command makes
abbrev pub TellsTexts : Command → (input report journal : List ℕ) → Type 0
TellsTexts (Spool n) input report journal = TellsRun n input report journal
TellsTexts (Load jobs n) input report journal = TellsLoad jobs n report journal
TellsTexts asked.Script input report journal = TellsScript input report journal
TellsTexts (Journal command) input report journal = TellsReport (replay.reports_of command) input report journal
TellsTexts (Polled n seed) input report journal = TellsRun n input report journal

-- whether a command writes a journal
abbrev pub has_journal : Command → Bool
has_journal (Journal command) = false
has_journal _ = true

-- whether a command reads its input
abbrev pub reads_input : Command → Bool
reads_input (Load jobs n) = false
reads_input _ = true

-- the input that a command works on: an empty one if it reads none
abbrev pub input_told : Command → Option (List ℕ) → Option (List ℕ)
input_told command input = if reads_input command then input else Some []

-- ---- the input, and what is left of it

-- a text was read to its end, and calls for this ending by its contents
pub record IsText (Found : List ℕ → Status → Type 0) (input : List ℕ) (left : Option (List ℕ)) (found : Status) : Type 0 where
  pub read : IsWhole deck_limit input left
  pub is : Found input found

-- the input of a command that reads a whole text, and what is left of it, after each ending but for a fault of the text
abbrev pub TextOf : (List ℕ → Status → Type 0) → Status → Option (List ℕ) → Option (List ℕ) → Type 0
TextOf Found Done old new = IfSome old (λ bytes. IsText Found bytes new Done)
TextOf Found ReportFailed old new = IfSome old (λ bytes. IsText Found bytes new Done)
TextOf Found JournalFailed old new = IfSome old (λ bytes. IsText Found bytes new Done)
TextOf Found TooLong old new = IfSome old (λ bytes. IsTooLong deck_limit bytes new)
TextOf Found ReadFailed old new = IfSome old (λ bytes. IsCut deck_limit bytes new)
TextOf Found NoMemory old new = IsAllOrNothing deck_limit old new
TextOf Found _ old new = ⊥

-- an input that could not be read as a whole text, and what is left of it, after each such ending
abbrev pub IsUnread : Status → Option (List ℕ) → Option (List ℕ) → Type 0
IsUnread TooLong old new = IfSome old (λ bytes. IsTooLong deck_limit bytes new)
IsUnread ReadFailed old new = IfSome old (λ bytes. IsCut deck_limit bytes new)
IsUnread NoMemory old new = IsAllOrNothing deck_limit old new
IsUnread _ old new = ⊥

-- why a deck that was read is refused: it has a fault, or memory ran out
abbrev pub IsRefusedDeck : ℕ → List ℕ → Status → Type 0
IsRefusedDeck n input (Deck fault) = IsFound n input (Deck fault)
IsRefusedDeck n input NoMemory = Unit {0}
IsRefusedDeck n input _ = ⊥

-- why a script that was read is refused: it has a fault, or memory ran out
abbrev pub IsRefusedScript : List ℕ → Status → Type 0
IsRefusedScript input (Script fault) = IsScriptFound input (Script fault)
IsRefusedScript input NoMemory = Unit {0}
IsRefusedScript input _ = ⊥

-- why the text that a command read is refused, if the command runs something
abbrev pub IsRefused : Command → List ℕ → Status → Type 0
IsRefused (Spool n) input status = IsRefusedDeck n input status
IsRefused (Polled n seed) input status = IsRefusedDeck n input status
IsRefused asked.Script input status = IsRefusedScript input status
IsRefused (Load jobs n) input status = status ≡ NoMemory
IsRefused (Journal command) input status = ⊥

-- the input of a command that reads a deck, and what is left of it, after each ending
abbrev pub DeckOf : ℕ → Status → Option (List ℕ) → Option (List ℕ) → Type 0
DeckOf n (Deck fault) old new = IfSome old (λ bytes. IsText (IsFound n) bytes new (Deck fault))
DeckOf n status old new = TextOf (IsFound n) status old new

-- the input of a command that reads a script, and what is left of it, after each ending
abbrev pub ScriptOf : Status → Option (List ℕ) → Option (List ℕ) → Type 0
ScriptOf (Script fault) old new = IfSome old (λ bytes. IsText IsScriptFound bytes new (Script fault))
ScriptOf status old new = TextOf IsScriptFound status old new

-- the endings of a load, which reads nothing: its deck has no fault, so only memory or a sink can fail
abbrev pub EndsLoad : Status → Type 0
EndsLoad Done = Unit {0}
EndsLoad ReportFailed = Unit {0}
EndsLoad JournalFailed = Unit {0}
EndsLoad NoMemory = Unit {0}
EndsLoad _ = ⊥

-- the input, and what is left of it, after each command and ending
abbrev pub InputOf : Option Command → Status → Option (List ℕ) → Option (List ℕ) → Type 0
InputOf (Some (Spool n)) status old new = DeckOf n status old new
InputOf (Some (Load jobs n)) status old new = EndsLoad status × (new ≡ old)
InputOf (Some asked.Script) status old new = ScriptOf status old new
InputOf (Some (Journal command)) status old new = IsSomeAnd (replay_of status) (λ s. replay.InputOf s old new)
InputOf (Some (Polled n seed)) status old new = DeckOf n status old new
InputOf None status old new = new ≡ old

-- ---- the two texts

-- how much of the two texts was written
abbrev pub extent_of : Status → Extent
extent_of Done = Everything
extent_of ReportFailed = PartOfReport
extent_of JournalFailed = PartOfJournal
extent_of _ = Nothing

-- the contents of the two sinks: as much of the texts that the command makes of the input as the ending says
abbrev pub Told : Option Command → Status → (input report0 report1 journal0 journal1 : Option (List ℕ)) → Type 0
Told (Some command) status input report0 report1 journal0 journal1 =
    WroteOf (TellsTexts command) (extent_of status) (input_told command input) report0 report1 journal0 journal1
Told None status input report0 report1 journal0 journal1 = (report1 ≡ report0) × (journal1 ≡ journal0)

-- the two texts, of which the report is written first, were written whole, or a prefix of the report, or the report and a
-- prefix of the journal
abbrev pub Writes : Status → (report0 report1 journal0 journal1 : Option (List ℕ)) → (report journal : List ℕ) → Type 0
Writes Done report0 report1 journal0 journal1 report journal = Wrote Everything report0 report1 journal0 journal1 report journal
Writes ReportFailed report0 report1 journal0 journal1 report journal = Wrote PartOfReport report0 report1 journal0 journal1 report journal
Writes JournalFailed report0 report1 journal0 journal1 report journal = Wrote PartOfJournal report0 report1 journal0 journal1 report journal
Writes _ report0 report1 journal0 journal1 report journal = ⊥
