-- The faults of a text: a test for each kind of fault that a line can have, and which fault is the first.
use Rattle.std.specs.Prelude.{◌≡◌, ℕ, ◌<◌, ◌≤◌, ◌⊎◌, ◌==◌, Bool, true, false, ◌&&◌, ◌||◌, not, List, [], ◌++◌, length, fold, All, Option, Some}
use Rattle.std.specs.Prelude.{None, is_some, option_map, option_to_list, if◌then◌else◌}
use Rattle.std.specs.Option.{option_or}
use Rattle.mv_machine.specs.declared.entry.Entry.{Entry}
use Rattle.mv_config.specs.Check.{IsValid, is_valid}
use Rattle.mv_config.specs.Setup.{Setup}
use Rattle.mv_line.specs.declared.fault.TextFault.{TextFault}
use Rattle.mv_line.specs.Fault.{LineRules, HasFaultAt, first_fault, when}
pub use Rattle.mv_line.specs.Fault.{TellsFirst}
use Rattle.mv_line.specs.Line.{ended_lines, cut_off}
use Rattle.mv_entrytext.specs.declared.fault.Kind.{Kind}
use Rattle.mv_entrytext.specs.declared.fault.Kind.TheVariants.{NoForm, BadNumber, BadConfig, WrongCount, Cut}
use Rattle.mv_operationtext.specs.declared.version.Version.{Version}
use Rattle.mv_operationtext.specs.declared.version.Version.TheVariants.{One, Two}
use Rattle.mv_operationtext.specs.Ranges.{highest_u32}
use Rattle.mv_operationtext.specs.EntryText.{HasText}
use Rattle.mv_entrytext.specs.Journal.{Line, Events, End, text_of}
use Rattle.mv_operationtext.specs.Version.{number_of}
use Rattle.mv_entrytext.specs.Lines.{Draft, Stage, AtEnd, line_read, blank, draft_with}

-- the number of a kind of fault
abbrev pub kind_number : Kind → ℕ
kind_number NoForm = 1
kind_number BadNumber = 2
kind_number BadConfig = 3
kind_number WrongCount = 4
kind_number Cut = 5

-- ---- faults of a line after the lines so far

-- whether a line is read as one that may come at this stage: strictly, with each number spelled well and in its range; or
-- otherwise, whatever the digits of its numbers are
abbrev pub is_read : Bool → Stage → List ℕ → Bool
is_read strict stage line = is_some (line_read strict stage line)

-- the kind of fault of a line's form and numbers: no form if it is read in neither way; a bad number, with a leading zero or
-- out of its range, if it is only not read strictly
abbrev pub kind_of_form : Stage → List ℕ → Option Kind
kind_of_form stage line =
    if not (is_read true stage line || is_read false stage line) then Some NoForm
    else if not (is_read true stage line) then Some BadNumber
    else None

-- whether the line ends the head, and its configuration is refused
abbrev pub has_bad_config : Draft → Line → Bool
has_bad_config d Events = not (is_valid d.setup)
has_bad_config d l = false

-- whether the line is the end, and its count is not the number of entries
abbrev pub has_wrong_count : Draft → Line → Bool
has_wrong_count d (End n) = not (length d.entries == n)
has_wrong_count d l = false

-- the kind of fault of what a line says
abbrev pub kind_said : Draft → Option Line → Option Kind
kind_said d None = None
kind_said d (Some l) = if has_bad_config d l then Some BadConfig else if has_wrong_count d l then Some WrongCount else None

-- the first kind of fault of a line that ends with LF
abbrev pub kind_of : Draft → List ℕ → Option Kind
kind_of d line = option_or (kind_of_form d.stage line) (kind_said d (line_read true d.stage line))

-- the number of a line's kind of fault as a list, which is empty if it has none
abbrev pub listed : Option Kind → List ℕ
listed kind = option_to_list (option_map kind_number kind)

-- ---- all lines of a text

-- the draft after one more line, if the line is read
abbrev pub draft_after : Draft → Option Line → Draft
draft_after d None = d
draft_after d (Some l) = draft_with l d

-- the draft after one more line, given as its text
abbrev pub with_line : Draft → List ℕ → Draft
with_line d line = draft_after d (line_read true d.stage line)

-- whether the last line was END
abbrev pub is_ended : Stage → Bool
is_ended AtEnd = true
is_ended _ = false

-- The rules of a journal's lines: it ends with END, and no bytes are cut off after the LF of its last line.
abbrev pub line_rules : List ℕ → LineRules Draft
line_rules cut = record {
  with_line = with_line;
  kinds_of = λ d line. listed (kind_of d line);
  is_whole = λ d. is_ended d.stage && length cut == 0;
  cut_short = kind_number Cut;
}

-- the first fault of a text, if it has one
unfoldable pub text_fault : List ℕ → Option TextFault
text_fault bytes = first_fault (line_rules (cut_off bytes)) blank (ended_lines bytes)

-- ---- every fault, and their order

-- whether a line has no form that is allowed at this stage
abbrev pub has_no_form : Stage → List ℕ → Bool
has_no_form stage line = not (is_read true stage line || is_read false stage line)

-- whether a line is not read with each number spelled well and in its range, whether it has a form or not
abbrev pub has_bad_number : Stage → List ℕ → Bool
has_bad_number stage line = not (is_read true stage line)

-- whether a line is read, and this test holds of it
abbrev pub says : (Draft → Line → Bool) → Draft → Option Line → Bool
says test d None = false
says test d (Some l) = test d l

-- the numbers of all kinds of fault of a line, each by its own test
abbrev pub every_kind : Draft → List ℕ → List ℕ
every_kind d line =
    when kind_number (has_no_form d.stage line) NoForm
    ++ (when kind_number (has_bad_number d.stage line) BadNumber
    ++ (when kind_number (says has_bad_config d (line_read true d.stage line)) BadConfig
    ++ when kind_number (says has_wrong_count d (line_read true d.stage line)) WrongCount))

-- the rules of a journal's lines, with all kinds of fault of a line
abbrev pub every_rule : List ℕ → LineRules Draft
every_rule cut = record (line_rules cut) { kinds_of = every_kind }

-- a text has the fault of this kind in this line
abbrev pub HasFault : List ℕ → TextFault → Type 0
HasFault bytes f = HasFaultAt (every_rule (cut_off bytes)) 1 blank (ended_lines bytes) f.line f.kind

-- the rank of a kind in its line: the order is 5, 1, 2, 3, 4, since a line that is cut off has that fault first
abbrev pub kind_rank : ℕ → ℕ
kind_rank kind = if kind == kind_number Cut then 0 else kind

-- a fault is at most as late as another: by line, and in one line by the rank of its kind
abbrev pub IsNoLater : TextFault → TextFault → Type 0
IsNoLater f g = (f.line < g.line) ⊎ ((f.line ≡ g.line) × (kind_rank f.kind ≤ kind_rank g.kind))

-- ---- what a text says

-- what a text without fault says: its version, its configuration, its entries and their call numbers
unfoldable pub journal_of : List ℕ → Draft
journal_of bytes = fold with_line blank (ended_lines bytes)

-- the text has no fault, and states this version, this configuration, these entries and their call numbers
pub record StatesJournal (bytes : List ℕ) (v : Version) (c : Setup) (es : List Entry) (ns : List ℕ) : Type 0 where
  pub faultless : text_fault bytes ≡ None
  pub version : (journal_of bytes).version ≡ v
  pub setup : (journal_of bytes).setup ≡ c
  pub entries : (journal_of bytes).entries ≡ es
  pub calls : (journal_of bytes).calls ≡ ns

-- ---- configurations and entries that have a text

-- a configuration and entries have a text
pub record HasJournal (c : Setup) (entries : List Entry) : Type 0 where
  pub valid : IsValid c
  pub each : All HasText entries
  pub count : length entries ≤ highest_u32

-- ---- call numbers that a text can have

-- there is a call number of four bytes for each entry
pub record AreCallNumbers (entries : List Entry) (calls : List ℕ) : Type 0 where
  pub one_each : length calls ≡ length entries
  pub each : All (λ n. n ≤ highest_u32) calls

-- the call numbers of a text: one for each entry in version 2, none in version 1
abbrev pub AreCallsIn : Version → List Entry → List ℕ → Type 0
AreCallsIn One entries calls = calls ≡ []
AreCallsIn Two entries calls = AreCallNumbers entries calls

-- the bytes are the text of this configuration, these entries and these call numbers, in the version with this number
pub record IsTextIn (told : ℕ) (bytes : List ℕ) (c : Setup) (entries : List Entry) (numbers : List ℕ) : Type 0 where
  pub version : Version
  pub number : told ≡ number_of version
  pub calls : AreCallsIn version entries numbers
  pub text : bytes ≡ text_of version c entries numbers
