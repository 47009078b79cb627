-- What the reader of journals has read so far, and what it reports.
use Rattle.std.specs.Prelude.{◌≡◌, ℕ, ◌+◌, List, [], length, Option, Some, None, is_some}
use Rattle.std.specs.Prelude.{if◌then◌else◌}
use Rattle.mv_config.specs.Check.{refusal_of}
use Rattle.mv_config.specs.Config.{setup_of}
use Rattle.mv_config.specs.Setup.{Setup}
use Rattle.mv_machine.specs.declared.entry.Entry.{Entry}
use Rattle.mv_line.specs.declared.line.Lines.{Lines}
use Rattle.mv_line.specs.Fault.{HasPassed}
use Rattle.mv_line.specs.Line.{lines_of, ended_lines, cut_off}
use Rattle.mv_entrytext.specs.declared.fault.Kind.{Kind}
use Rattle.mv_entrytext.specs.declared.fault.Kind.TheVariants.{BadConfig}
use Rattle.mv_entrytext.specs.declared.head.HeadDraft.{HeadDraft}
use Rattle.mv_operationtext.specs.declared.version.Version.{Version}
use Rattle.mv_entrytext.specs.Lines.{Stage, AtVersion, AtCallers, AtElements, AtVolumes, AtLatches, AtQuota, AtBudgets, AtOwners}
use Rattle.mv_entrytext.specs.Lines.{AtExits, AtEntries, AtEnd, Draft, blank}
use Rattle.mv_entrytext.specs.Fault.{line_rules}
use Rattle.mv_entrytext.specs.Said.{stage_of}

-- the kind of fault of the line that ends the head, if it has one
abbrev pub kind_of_config : Setup → Option Kind
kind_of_config c = if is_some (refusal_of c) then Some BadConfig else None

-- the draft with these parts
abbrev pub draft_at : Stage → Version → Setup → List Entry → List ℕ → Draft
draft_at stage version setup entries calls =
    record { stage = stage; version = version; setup = setup; entries = entries; calls = calls }

-- the draft of what the lines of the head have said so far
abbrev pub head_seen : HeadDraft → Draft
head_seen d = draft_at (stage_of d.stage) d.version (setup_of d.config) [] []

-- the number of the first line at a stage, not counting the lines of the lists before it
abbrev pub first_line_at : Stage → ℕ
first_line_at AtVersion = 1
first_line_at AtCallers = 2
first_line_at AtElements = 3
first_line_at AtVolumes = 4
first_line_at AtLatches = 5
first_line_at AtQuota = 6
first_line_at AtBudgets = 7
first_line_at AtOwners = 7
first_line_at AtExits = 7
first_line_at (AtEntries version) = 8
first_line_at AtEnd = 9

-- the number of the line after those that made this draft
abbrev pub line_behind : Draft → ℕ
line_behind d = first_line_at d.stage + length d.setup.budgets + length d.setup.owners + length d.setup.exits + length d.entries

-- these lines of a text are left, and the lines before them made this draft
pub record IsAt (bytes : List ℕ) (lines : Lines) (d : Draft) : Type 0 where
  pub passed : HasPassed (line_rules (cut_off bytes)) blank (ended_lines bytes) lines.number d (lines_of lines.left.now)
  pub line : lines.number ≡ line_behind d
