-- The text of a journal: the lines of its head, a line for each entry, and the last line. In version 2 an entry's line has
-- the number of the call that the entry belongs to.
use Rattle.std.specs.Prelude.{ℕ, ◌+◌, List, [], ◌∷◌, ◌++◌, length, Option, Some, None, codes, decimal}
use Rattle.std.specs.List.{flat_map}
use Rattle.mv_machine.specs.declared.entry.Entry.{Entry}
use Rattle.mv_config.specs.Setup.{Setup, SetupExit}
use Rattle.mv_calls.specs.Numbers.{calls}
use Rattle.mv_operationtext.specs.declared.version.Version.{Version}
pub use Rattle.mv_operationtext.specs.declared.version.Version.TheVariants.{One, Two}
use Rattle.mv_operationtext.specs.Words.{◌<+>◌}
use Rattle.mv_operationtext.specs.EntryText.{entry_text}

-- a line, by what it says
pub data Line : Type 0 where
  JournalOf : (version : Version) → Line
  Callers : (n : ℕ) → Line
  Elements : (n : ℕ) → Line
  Volumes : (n : ℕ) → Line
  Latches : (n : ℕ) → Line
  Quota : (quota posted : ℕ) → Line
  Budget : (n : ℕ) → Line
  Owner : (caller : ℕ) → Line
  ExitTo : (x : SetupExit) → Line
  Events : Line
  EntryOf : (call : Option ℕ) (e : Entry) → Line
  End : (n : ℕ) → Line

-- a line's text without its LF
abbrev pub line_text : Line → List ℕ
line_text (JournalOf One) = codes "JOURNAL 1"
line_text (JournalOf Two) = codes "JOURNAL 2"
line_text (Callers n) = codes "CALLERS" <+> decimal n
line_text (Elements n) = codes "ELEMENTS" <+> decimal n
line_text (Volumes n) = codes "VOLUMES" <+> decimal n
line_text (Latches n) = codes "LATCHES" <+> decimal n
line_text (Quota quota posted) = codes "QUOTA" <+> decimal quota <+> decimal posted
line_text (Budget n) = codes "BUDGET" <+> decimal n
line_text (Owner caller) = codes "ECB" <+> decimal caller
line_text (ExitTo x) = codes "EXIT" <+> decimal x.source ++ flat_map (λ target. codes " " ++ decimal target) x.targets
line_text Events = codes "EVENTS"
line_text (EntryOf call e) = entry_text call e
line_text (End n) = codes "END" <+> decimal n

-- a line with its LF
unfoldable pub line : Line → List ℕ
line l = line_text l ++ codes "\n"

-- the first lines of the head: the version, and the counts
unfoldable pub counts_text : Version → Setup → List ℕ
counts_text version c =
    line (JournalOf version) ++ line (Callers c.callers) ++ line (Elements c.elements_per_caller) ++ line (Volumes c.volumes)
    ++ line (Latches c.latches) ++ line (Quota c.quota c.posted_quota)

-- the lists of the head: each caller's budget, the owner of each event control block, each exit
unfoldable pub lists_text : Setup → List ℕ
lists_text c =
    flat_map (λ n. line (Budget n)) c.budgets
    ++ flat_map (λ n. line (Owner n)) c.owners
    ++ flat_map (λ x. line (ExitTo x)) c.exits

-- the head: the version and the counts, the lists, and the line that the entries follow
unfoldable pub head_text : Version → Setup → List ℕ
head_text version c = counts_text version c ++ lists_text c ++ line Events

-- the number of the first line after the head, counted from 1
abbrev pub first_line : Setup → ℕ
first_line c = 8 + length c.budgets + length c.owners + length c.exits

-- the lines of entries, each with the number of its call as long as there are numbers
abbrev pub entry_lines : List Entry → List ℕ → List Line
entry_lines [] calls = []
entry_lines (e ∷ es) [] = EntryOf None e ∷ entry_lines es []
entry_lines (e ∷ es) (call ∷ calls) = EntryOf (Some call) e ∷ entry_lines es calls

-- the text of a journal: the head, a line for each entry, and the end
unfoldable pub text_of : Version → Setup → List Entry → List ℕ → List ℕ
text_of version c entries calls =
    head_text version c ++ flat_map line (entry_lines entries calls) ++ line (End (length entries))

-- ---- the texts of a configuration and entries

-- the text in version 1, without call numbers
abbrev pub text1 : Setup → List Entry → List ℕ
text1 c entries = text_of One c entries []

-- the text that is written: version 2 with the machine's call numbers
abbrev pub journal_text : Setup → List Entry → List ℕ
journal_text c entries = text_of Two c entries (calls c entries)
