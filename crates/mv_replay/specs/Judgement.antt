-- The kinds of texts: the journal of a legal history with its call numbers; a journal with a first entry that is not the
-- machine's or has another number; or not a journal.
use Rattle.std.specs.Prelude.{◌≡◌, ℕ, suc, ◌+◌, ◌<◌, List, [], take, length, Some}
use Rattle.mv_machine.specs.declared.entry.Entry.{Entry}
use Rattle.mv_machine.specs.Legal.{Legal, after}
use Rattle.mv_calls.specs.Numbers.{calls}
use Rattle.mv_config.specs.Setup.{Setup}
use Rattle.mv_machine.specs.System.{System}
use Rattle.mv_machine.specs.Told.{last_wakes}
use Rattle.mv_latch.specs.declared.operation.Wake.{Wake}
use Rattle.mv_operationtext.specs.declared.version.Version.{Version}
use Rattle.mv_operationtext.specs.declared.version.Version.TheVariants.{One, Two}
use Rattle.mv_entrytext.specs.Journal.{first_line}
use Rattle.mv_entrytext.specs.Fault.{StatesJournal, text_fault}
use Rattle.mv_replay.specs.declared.status.ReplayStatus.{ReplayStatus}
use Rattle.mv_replay.specs.declared.status.ReplayStatus.TheVariants.{NoMemory, Illegal, Text}

-- the most bytes of a journal
abbrev pub journal_limit : ℕ
journal_limit = 67_108_864

-- the call numbers that entries should have in a text of this version: the machine's in version 2, none in version 1
abbrev pub calls_in : Version → Setup → List Entry → List ℕ
calls_in One c es = []
calls_in Two c es = calls c es

-- these entries are legal, and these are their call numbers
pub record AreRight (v : Version) (c : Setup) (es : List Entry) (ns : List ℕ) : Type 0 where
  pub legal : Legal c es
  pub numbers : ns ≡ calls_in v c es

-- the bytes state this many entries, which are legal, with the call numbers that the machine gives them
pub record IsLegalJournal (bytes : List ℕ) (count : ℕ) : Type 0 where
  pub version : Version
  pub setup : Setup
  pub entries : List Entry
  pub states : StatesJournal bytes version setup entries (calls_in version setup entries)
  pub legal : Legal setup entries
  pub number : count ≡ length entries

-- the text of this number of legal entries, of this configuration: after them the machine is in this state, and these are the wakes of
-- their last operation on the latch set
pub record IsReplayed (bytes : List ℕ) (count : ℕ) (c : Setup) (s : System) (wakes : List Wake) : Type 0 where
  pub journal : IsLegalJournal bytes count
  pub config : journal.setup ≡ c
  pub state : s ≡ after journal.setup journal.entries
  pub shown : wakes ≡ last_wakes journal.setup journal.entries

-- the entries before this index are right, but not with the one at this index, which is not the machine's next or has another
-- number
pub record IsFirstWrong (v : Version) (c : Setup) (es : List Entry) (ns : List ℕ) (i : ℕ) : Type 0 where
  pub within : i < length es
  pub good : AreRight v c (take i es) (take i ns)
  pub bad : ¬ AreRight v c (take (suc i) es) (take (suc i) ns)

-- the bytes state entries of which the one on this line is the first wrong one
pub record IsIllegalAt (bytes : List ℕ) (line : ℕ) : Type 0 where
  pub version : Version
  pub setup : Setup
  pub entries : List Entry
  pub calls : List ℕ
  pub states : StatesJournal bytes version setup entries calls
  pub index : ℕ
  pub first : IsFirstWrong version setup entries calls index
  pub place : line ≡ first_line setup + index

-- the status of a text that is not a legal journal, by the reason; if memory ran out, the text may be one
abbrev pub IsRefused : List ℕ → ReplayStatus → Type 0
IsRefused bytes (Illegal line) = IsIllegalAt bytes line
IsRefused bytes (Text fault) = text_fault bytes ≡ Some fault
IsRefused bytes NoMemory = Unit {0}
IsRefused bytes _ = ⊥
