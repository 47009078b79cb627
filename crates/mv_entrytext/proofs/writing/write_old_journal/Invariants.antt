-- The entries gone through are written.
use Rattle.std.proofs.Common.{[], take}
use Rattle.std.specs.Prelude.{All}
use Rattle.mv_operationtext.specs.declared.version.Version.TheVariants.{One}
use Rattle.mv_operationtext.specs.EntryText.{IsTyped}
use Rattle.mv_entrytext.specs.Journal.{entry_lines}
use Rattle.mv_entrytext.specs.Writer.{IsWrittenTo}
use Rattle.mv_entrytext.proofs.writing.write_old_journal.Given as goal

abbrev pub invariant-loop-entry : goal.invariant-loop-entry
invariant-loop-entry l = record {
  text : IsWrittenTo One l.config (entry_lines (take l.entry-index l.entries) []) l.writer;
  typed : All IsTyped (take l.entry-index l.entries);
}
