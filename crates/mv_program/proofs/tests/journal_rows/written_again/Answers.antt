-- What was read has a text, and so it is in range.
use Rattle.std.proofs.Common.{List, sym, subst}
use Rattle.std.specs.Prelude.{All}
use Rattle.mv_machine.specs.declared.entry.Entry.{Entry}
use Rattle.mv_operationtext.specs.EntryText.{IsInRange}
use Rattle.mv_program.proofs.tests.journal_rows.written_again.Goals as goal

pub write_old_journal-requires : goal.write_old_journal-requires
write_old_journal-requires c = record {
  in_range = subst (λ (es : List Entry). All IsInRange es) (sym c.deref.ensures.value) (λ k d lt. (c.requires.each k d lt).0);
}
