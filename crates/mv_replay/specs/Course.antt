-- How far a text has been judged, what is made of it meanwhile, and what is written of it then.
use Rattle.std.specs.Prelude.{◌≡◌, ℕ, ◌+◌, Bool, true, false, List, Option, Some, None, option_map}
use Rattle.mv_machine.specs.declared.entry.Entry.{Entry}
use Rattle.mv_config.specs.Setup.{Setup}
use Rattle.mv_calls.specs.declared.judge.Judge.{Judge}
use Rattle.mv_calls.specs.Judge.{HasJudged}
use Rattle.mv_calls.specs.Numbers.{calls}
use Rattle.mv_operationtext.specs.declared.version.Version.{Version}
use Rattle.mv_operationtext.specs.declared.version.Version.TheVariants.{One, Two}
use Rattle.mv_entrytext.specs.declared.writing.JournalWriter.{JournalWriter}
use Rattle.mv_entrytext.specs.Journal.{first_line, entry_lines, journal_text}
use Rattle.mv_entrytext.specs.Writer.{IsWrittenTo}
use Rattle.mv_replay.specs.declared.command.JournalCommand.{JournalCommand}
use Rattle.mv_replay.specs.declared.command.JournalCommand.TheVariants.{Replay, Convert}
use Rattle.mv_replay.specs.declared.judging.Judged.{Judged}
use Rattle.mv_replay.specs.declared.reading.LegalText.{LegalText}
use Rattle.mv_replay.specs.Judgement.{AreRight, IsFirstWrong, IsLegalJournal}
use Rattle.mv_replay.specs.Outcome.{legal_text}

-- whether a command copies a text in version 2: a conversion copies a text of version 1, and one of version 2 is its own
-- conversion
abbrev pub is_copied : JournalCommand → Version → Bool
is_copied Replay v = false
is_copied Convert One = true
is_copied Convert Two = false

-- the conversion of a text: the copy, or the text itself if there is none
abbrev pub made_of : (text : List ℕ) → (copy : Option (List ℕ)) → List ℕ
made_of text (Some copy) = copy
made_of text None = text

-- ---- during the judgement

-- the copy has the lines of these entries, or there is no copy
abbrev pub IsCopied : Bool → Setup → List Entry → Option JournalWriter → Type 0
IsCopied true c es (Some w) = IsWrittenTo Two c (entry_lines es (calls c es)) w
IsCopied false c es None = Unit {0}
IsCopied _ c es copy = ⊥

-- these entries, with these call numbers, are right: they were judged, and copied if there is a copy
pub record IsRightTo (v : Version) (copied : Bool) (c : Setup) (es : List Entry) (ns : List ℕ) (j : Judge) (copy : Option JournalWriter)
    : Type 0 where
  pub right : AreRight v c es ns
  pub judged : HasJudged c es j
  pub copy_is : IsCopied copied c es copy

-- the first wrong one of these entries is on this line
pub record IsWrongAt (v : Version) (c : Setup) (es : List Entry) (ns : List ℕ) (line : ℕ) : Type 0 where
  pub index : ℕ
  pub first : IsFirstWrong v c es ns index
  pub place : line ≡ first_line c + index

-- how far the text has been judged: these entries are right, or the first wrong one is on this line
abbrev pub IsCourse : Version → Bool → Setup → List Entry → List ℕ → Option ℕ → Judge → Option JournalWriter → Type 0
IsCourse v copied c es ns None j copy = IsRightTo v copied c es ns j copy
IsCourse v copied c es ns (Some line) j copy = IsWrongAt v c es ns line

-- ---- after the judgement

-- the copy is the whole journal in version 2, or there is no copy
abbrev pub IsMade : Bool → Setup → List Entry → Option (List ℕ) → Type 0
IsMade true c es (Some text) = text ≡ journal_text c es
IsMade false c es None = Unit {0}
IsMade _ c es copy = ⊥

-- the text is a legal journal, and this was kept of it: its conversion if the command makes one, its configuration, and the judge
-- after its entries
pub record IsJudged (command : JournalCommand) (bytes : List ℕ) (j : Judged) : Type 0 where
  pub legal : IsLegalJournal bytes j.count
  pub made : IsMade (is_copied command legal.version) legal.setup legal.entries (option_map (λ t. t.items) j.second)
  pub config : j.config ≡ legal.setup
  pub judged : HasJudged legal.setup legal.entries j.judge

-- ---- the reports

-- the conversion of a legal text, if the command makes one
abbrev pub conversion_of : LegalText → List ℕ
conversion_of l = made_of l.text.items (option_map (λ t. t.items) l.judged.second)

-- the report of a command on a legal text
abbrev pub report_text : JournalCommand → LegalText → List ℕ
report_text Replay l = legal_text l.judged.count
report_text Convert l = conversion_of l
