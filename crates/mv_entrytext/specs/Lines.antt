-- How the lines of a journal are read, and what the lines so far have said.
use Rattle.std.specs.Prelude.{ℕ, Bool, List, [], ◌∷◌, ◌++◌, codes, Option, Some, None, option_map, option_and_then}
use Rattle.mv_machine.specs.declared.entry.Entry.{Entry}
use Rattle.mv_config.specs.Setup.{Setup, SetupExit}
use Rattle.mv_line.specs.Part.{parts_at}
use Rattle.mv_operationtext.specs.declared.version.Version.{Version}
use Rattle.mv_operationtext.specs.declared.version.Version.TheVariants.{One, Two}
use Rattle.mv_operationtext.specs.EntryText.{entry_read}
use Rattle.mv_entrytext.specs.Journal.{Line, JournalOf, Callers, Elements, Volumes, Latches, Quota, Budget, Owner, ExitTo, Events}
use Rattle.mv_entrytext.specs.Journal.{EntryOf, End}
use Rattle.mv_operationtext.specs.Reading.{Reader, nothing, word, behind, ◌or◌, made, parted, whole, any_u32}

-- the stage of a journal: which line comes next
pub data Stage : Type 0 where
  AtVersion : Stage
  AtCallers : Stage
  AtElements : Stage
  AtVolumes : Stage
  AtLatches : Stage
  AtQuota : Stage
  AtBudgets : Stage
  AtOwners : Stage
  AtExits : Stage
  AtEntries : (version : Version) → Stage
  AtEnd : Stage

-- the numbers of these fields, if each field is a number to its end
unfoldable pub numbers : Bool → List (List ℕ) → Option (List ℕ)
numbers strict [] = Some []
numbers strict (field ∷ fields) =
    option_and_then (λ n. option_map (λ ns. n ∷ ns) (numbers strict fields)) (whole (any_u32 strict) field)

-- the exit of these numbers, if they are a source and one or more targets; no text is left
abbrev pub exit_from : List ℕ → Option (SetupExit × List ℕ)
exit_from (source ∷ target ∷ targets) = Some (record { source = source; targets = target ∷ targets }, [])
exit_from _ = None

-- reads an exit: numbers separated by single spaces
unfoldable pub exit_read : Bool → Reader SetupExit
exit_read strict text = option_and_then exit_from (numbers strict (parts_at 32 text))

-- reads a line that may come after the owners
abbrev pub at_exits : Bool → Reader Line
at_exits strict = word (codes "EVENTS") Events or made (λ x. ExitTo x) (behind (codes "EXIT ") (exit_read strict))

-- reads a line that may come after the budgets
abbrev pub at_owners : Bool → Reader Line
at_owners strict = made (λ n. Owner n) (behind (codes "ECB ") (any_u32 strict)) or at_exits strict

-- reads the version or a count, each of which has its stage
unfoldable pub count_line : Bool → Stage → Reader Line
count_line strict AtVersion = word (codes "JOURNAL 1") (JournalOf One) or word (codes "JOURNAL 2") (JournalOf Two)
count_line strict AtCallers = made (λ n. Callers n) (behind (codes "CALLERS ") (any_u32 strict))
count_line strict AtElements = made (λ n. Elements n) (behind (codes "ELEMENTS ") (any_u32 strict))
count_line strict AtVolumes = made (λ n. Volumes n) (behind (codes "VOLUMES ") (any_u32 strict))
count_line strict AtLatches = made (λ n. Latches n) (behind (codes "LATCHES ") (any_u32 strict))
count_line strict AtQuota = made (λ x. Quota x.0 x.1) (behind (codes "QUOTA ") (parted (any_u32 strict) (any_u32 strict)))
count_line strict _ = nothing

-- reads a line that may come at this stage
unfoldable pub next_line : Bool → Stage → Reader Line
next_line strict AtBudgets = made (λ n. Budget n) (behind (codes "BUDGET ") (any_u32 strict)) or at_owners strict
next_line strict AtOwners = at_owners strict
next_line strict AtExits = at_exits strict
next_line strict (AtEntries version) =
    made (λ n. End n) (behind (codes "END ") (any_u32 strict)) or made (λ x. EntryOf x.0 x.1) (entry_read strict version)
next_line strict s = count_line strict s

-- the whole line of this text, without its LF
abbrev pub line_read : Bool → Stage → List ℕ → Option Line
line_read strict stage text = whole (next_line strict stage) text

-- ---- what the lines so far have said

-- what the lines so far have said: the stage, the version, the configuration, the entries and their call numbers
pub record Draft : Type 0 where
  pub stage : Stage
  pub version : Version
  pub setup : Setup
  pub entries : List Entry
  pub calls : List ℕ

-- the draft before the first line, which sets the version
abbrev pub blank : Draft
blank = record {
  stage = AtVersion;
  version = One;
  setup = record {
    callers = 0;
    elements_per_caller = 0;
    volumes = 0;
    latches = 0;
    quota = 0;
    posted_quota = 0;
    budgets = [];
    owners = [];
    exits = [];
  };
  entries = [];
  calls = [];
}

-- the call numbers with one more, if there is one
abbrev pub with_call : Option ℕ → List ℕ → List ℕ
with_call None calls = calls
with_call (Some call) calls = calls ++ call ∷ []

-- the draft after one more line: what the line adds, and which line comes next
abbrev pub draft_with : Line → Draft → Draft
draft_with (JournalOf version) d = record d { stage = AtCallers; version = version }
draft_with (Callers n) d = record d { stage = AtElements; setup = record d.setup { callers = n } }
draft_with (Elements n) d = record d { stage = AtVolumes; setup = record d.setup { elements_per_caller = n } }
draft_with (Volumes n) d = record d { stage = AtLatches; setup = record d.setup { volumes = n } }
draft_with (Latches n) d = record d { stage = AtQuota; setup = record d.setup { latches = n } }
draft_with (Quota quota posted) d = record d { stage = AtBudgets; setup = record d.setup { quota = quota; posted_quota = posted } }
draft_with (Budget n) d = record d { stage = AtBudgets; setup = record d.setup { budgets = d.setup.budgets ++ n ∷ [] } }
draft_with (Owner caller) d = record d { stage = AtOwners; setup = record d.setup { owners = d.setup.owners ++ caller ∷ [] } }
draft_with (ExitTo x) d = record d { stage = AtExits; setup = record d.setup { exits = d.setup.exits ++ x ∷ [] } }
draft_with Events d = record d { stage = AtEntries d.version }
draft_with (EntryOf call e) d =
    record d { stage = AtEntries d.version; entries = d.entries ++ e ∷ []; calls = with_call call d.calls }
draft_with (End n) d = record d { stage = AtEnd }
