-- How contracts see the reader's types.
use Rattle.std.specs.Prelude.{ℕ, List, Option, option_map}
use Rattle.std.specs.Borrow.{Bor}
use Rattle.mv_config.specs.Config.{exit_of}
use Rattle.mv_entrytext.specs.declared.line.Line.{Line}
use Rattle.mv_entrytext.specs.declared.line.Line.TheVariants.{Version, Callers, Elements, Volumes, Latches, Quota, Budget, Owner, Exit}
use Rattle.mv_entrytext.specs.declared.line.Line.TheVariants.{Events}
use Rattle.mv_entrytext.specs.declared.line.EntryLine.{EntryLine}
use Rattle.mv_entrytext.specs.declared.line.EntryLine.TheVariants.{Entry, End}
use Rattle.mv_entrytext.specs.declared.line.Stage.{Stage}
use Rattle.mv_entrytext.specs.declared.line.Stage.TheVariants as stage
use Rattle.mv_entrytext.specs.Journal as journal
use Rattle.mv_entrytext.specs.Lines as lines

-- the line of a journal that a line of the head is
abbrev pub said : Line → journal.Line
said (Version v) = journal.JournalOf v
said (Callers n) = journal.Callers n
said (Elements n) = journal.Elements n
said (Volumes n) = journal.Volumes n
said (Latches n) = journal.Latches n
said (Quota quota posted) = journal.Quota quota posted
said (Budget n) = journal.Budget n
said (Owner n) = journal.Owner n
said (Exit x) = journal.ExitTo (exit_of x)
said Events = journal.Events

-- the line of a journal that a line after the head is
abbrev pub entry_said : EntryLine → journal.Line
entry_said (Entry call e) = journal.EntryOf call e
entry_said (End n) = journal.End n

-- the stage of a journal that a stage of the head is
abbrev pub stage_of : Stage → lines.Stage
stage_of stage.Version = lines.AtVersion
stage_of stage.Callers = lines.AtCallers
stage_of stage.Elements = lines.AtElements
stage_of stage.Volumes = lines.AtVolumes
stage_of stage.Latches = lines.AtLatches
stage_of stage.Quota = lines.AtQuota
stage_of stage.Budgets = lines.AtBudgets
stage_of stage.Owners = lines.AtOwners
stage_of stage.Exits = lines.AtExits

-- a line of the head that was read, and what is left of the text
abbrev pub line_seen : Option (Line × Bor (List ℕ)) → Option (journal.Line × List ℕ)
line_seen read = option_map (λ x. (said x.0, x.1.now)) read

-- a line after the head that was read, and what is left of the text
abbrev pub entry_line_seen : Option (EntryLine × Bor (List ℕ)) → Option (journal.Line × List ℕ)
entry_line_seen read = option_map (λ x. (entry_said x.0, x.1.now)) read
