-- The entries gone through are judged, and written with their numbers.
use Rattle.std.proofs.Common.{take}
use Rattle.std.specs.Prelude.{All}
use Rattle.mv_calls.specs.Judge.{HasJudged}
use Rattle.mv_calls.specs.Numbers.{calls}
use Rattle.mv_operationtext.specs.declared.version.Version.TheVariants.{Two}
use Rattle.mv_operationtext.specs.EntryText.{IsTyped}
use Rattle.mv_entrytext.specs.Journal.{entry_lines}
use Rattle.mv_entrytext.specs.Writer.{IsWrittenTo}
use Rattle.mv_entrytext.proofs.writing.write_journal.Given as goal

abbrev pub invariant-loop-entry : goal.invariant-loop-entry
invariant-loop-entry l = record {
  judged : HasJudged l.config (take l.entry-index l.entries) l.judge;
  text : IsWrittenTo Two l.config (entry_lines (take l.entry-index l.entries) (calls l.config (take l.entry-index l.entries))) l.writer;
  typed : All IsTyped (take l.entry-index l.entries);
}
