-- What is said of a journal: its first fault; or the first event that is not the machine's, and what the machine answers there; or the
-- first call number that is wrong, and the right one; or how many events it has.
use Rattle.std.specs.Prelude.{◌≡◌, ℕ, ◌+◌, ◌⊎◌, Bool, true, false, nat_le, List, [], ◌++◌, length, count_by, slice_get, take, codes, decimal}
use Rattle.std.specs.Prelude.{Option, Some, None, if◌then◌else◌}
use Rattle.mv_line.specs.declared.fault.TextFault.{TextFault}
use Rattle.mv_machine.specs.declared.entry.Entry.{Entry}
use Rattle.mv_machine.specs.declared.entry.Object.{Object}
use Rattle.mv_machine.specs.declared.entry.Object.TheVariants.{Ecb, Element, Volume, Latches}
use Rattle.mv_machine.specs.declared.entry.Reply.{Reply}
use Rattle.mv_machine.specs.declared.replaying.Illegal.{Illegal}
use Rattle.mv_config.specs.Setup.{Setup}
use Rattle.mv_entrytext.specs.Fault.{HasJournal, IsTextIn, text_fault}
use Rattle.mv_entrytext.specs.Journal.{EntryOf, first_line, line}
use Rattle.mv_explain.specs.declared.judging.Verdict.{Verdict}
use Rattle.mv_explain.specs.declared.judging.Verdict.TheVariants as verdict
use Rattle.mv_explain.specs.declared.sentences.TheConstants.{DRAW_JOURNAL, ILLEGAL, JOURNAL_LINE, LEGAL_EVENTS, MACHINE, NOT_ADMITTED}
use Rattle.mv_explain.specs.declared.sentences.TheConstants.{BELONGS_TO, HAS_NUMBER, OF_ITS_TASK}
use Rattle.mv_explain.specs.declared.sentences.TheConstants.{ON_BLOCKS, ON_ELEMENTS, ON_LATCHES, ON_VOLUMES}
use Rattle.mv_explain.specs.Before.{earlier_text, state_text}
use Rattle.mv_explain.specs.ByTask.{from_task_text}
use Rattle.mv_explain.specs.Judged.{IsVerdict}
use Rattle.mv_diagnostics.specs.Quote.{fault_text, place_text}
use Rattle.mv_diagnostics.specs.Sentence.{journal_sentence}

-- a fault of the text
abbrev pub fault_of_journal_text : List ℕ → TextFault → List ℕ
fault_of_journal_text bytes fault = fault_text (codes "journal") bytes fault (journal_sentence fault.kind)

-- ---- a legal journal

-- which sort of object this is
abbrev pub is_block : Object → Bool
is_block (Ecb n) = true
is_block _ = false

abbrev pub is_element : Object → Bool
is_element (Element n) = true
is_element _ = false

abbrev pub is_volume : Object → Bool
is_volume (Volume n) = true
is_volume _ = false

abbrev pub is_latches : Object → Bool
is_latches Latches = true
is_latches _ = false

-- an event on an object of this sort
abbrev pub is_on_block : Entry → Bool
is_on_block e = is_block e.object

abbrev pub is_on_element : Entry → Bool
is_on_element e = is_element e.object

abbrev pub is_on_volume : Entry → Bool
is_on_volume e = is_volume e.object

abbrev pub is_on_latches : Entry → Bool
is_on_latches e = is_latches e.object

-- how many events there are on blocks and elements
unfoldable pub waits_text : List Entry → List ℕ
waits_text es =
    (ON_BLOCKS.now ++ decimal (count_by is_on_block es)) ++ (ON_ELEMENTS.now ++ decimal (count_by is_on_element es))

-- on volumes and on the latch set
unfoldable pub shared_text : List Entry → List ℕ
shared_text es =
    (ON_VOLUMES.now ++ decimal (count_by is_on_volume es)) ++ (ON_LATCHES.now ++ decimal (count_by is_on_latches es))

-- on each sort of objects
unfoldable pub counts_text : List Entry → List ℕ
counts_text es = waits_text es ++ shared_text es ++ codes "\n"

-- how many events a legal journal has
unfoldable pub legal_text : Setup → List Entry → List ℕ
legal_text c es =
    (LEGAL_EVENTS.now ++ decimal (length es)) ++ codes "\n" ++ from_task_text es 0 c.callers ++ counts_text es ++ DRAW_JOURNAL.now

-- ---- one that is not

-- an event as the machine makes it
unfoldable pub answer_text : Entry → ℕ × Reply → List ℕ
answer_text e answer = MACHINE.now ++ line (EntryOf None (record e { place = answer.0; reply = answer.1 }))

-- what the machine answers in place of an event
unfoldable pub machine_text : Entry → Option (ℕ × Reply) → List ℕ
machine_text e None = NOT_ADMITTED.now
machine_text e (Some answer) = answer_text e answer

-- the event on this line is not the machine's, which answers so
unfoldable pub illegal_text : List ℕ → ℕ → Entry → Option (ℕ × Reply) → List ℕ
illegal_text bytes number e machine =
    (JOURNAL_LINE.now ++ decimal number) ++ ILLEGAL.now ++ place_text bytes number ++ machine_text e machine

-- to which call of its task an event belongs
unfoldable pub belongs_text : ℕ → List ℕ
belongs_text machine = (BELONGS_TO.now ++ decimal machine) ++ OF_ITS_TASK.now

-- an event has this call number, and not the other
unfoldable pub numbers_text : (kept machine : ℕ) → List ℕ
numbers_text kept machine = (HAS_NUMBER.now ++ decimal kept) ++ belongs_text machine

-- so of the event on this line
unfoldable pub misnumbered_text : List ℕ → (number kept machine : ℕ) → List ℕ
misnumbered_text bytes number kept machine =
    (JOURNAL_LINE.now ++ decimal number) ++ numbers_text kept machine ++ place_text bytes number

-- what there was before an event at this place: the state of its object, and the last three events on it
unfoldable pub before_text : Setup → (first : ℕ) → List Entry → (index : ℕ) → Entry → List ℕ
before_text c first es index e = state_text c (take index es) e ++ earlier_text first es e.object index 3

-- all this of an event that there is
abbrev pub illegal_at : List ℕ → Setup → (first : ℕ) → List Entry → Illegal → Option Entry → List ℕ
illegal_at bytes c first es i None = []
illegal_at bytes c first es i (Some e) = illegal_text bytes (first + i.index) e i.machine ++ before_text c first es i.index e

-- ---- any

-- what is said by what the events are found to be, of which the first is on this line
abbrev pub verdict_text : List ℕ → Setup → (first : ℕ) → List Entry → Verdict → List ℕ
verdict_text bytes c first es verdict.Legal = legal_text c es
verdict_text bytes c first es (verdict.Illegal i) = illegal_at bytes c first es i (slice_get es i.index)
verdict_text bytes c first es (verdict.Misnumbered index kept machine) =
    if nat_le (length es) index then [] else misnumbered_text bytes (first + index) kept machine

-- the bytes are the text of a journal, whose events are judged
pub record IsJudgedSo (bytes text : List ℕ) : Type 0 where
  pub version : ℕ
  pub setup : Setup
  pub entries : List Entry
  pub calls : List ℕ
  pub verdict : Verdict
  pub journal : HasJournal setup entries
  pub read : IsTextIn version bytes setup entries calls
  pub judged : IsVerdict version setup entries calls verdict
  pub written : text ≡ verdict_text bytes setup (first_line setup) entries verdict

-- they have a fault
pub record IsFaultSo (bytes text : List ℕ) : Type 0 where
  pub fault : TextFault
  pub first : text_fault bytes ≡ Some fault
  pub written : text ≡ fault_of_journal_text bytes fault

-- what is said of a journal
abbrev pub IsJournalExplained : List ℕ → List ℕ → Type 0
IsJournalExplained bytes text = IsFaultSo bytes text ⊎ IsJudgedSo bytes text
