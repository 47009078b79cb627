-- The reader stands behind the entries that are kept.
use Rattle.std.proofs.Common.{◌≡◌}
use Rattle.mv_entrytext.specs.Journal.{first_line}
use Rattle.mv_entrytext.specs.Reader.{left_in, IsReadTo}
use Rattle.mv_entrytext.proofs.reading.read_journal.Given as goal

abbrev pub invariant-entries : goal.invariant-entries
invariant-entries l = record {
  read : IsReadTo l.version l.bytes l.config l.entries.items l.calls.items l.reader;
  first : l.first_line ≡ first_line l.config;
}

abbrev pub decreases-entries : goal.decreases-entries
decreases-entries l = left_in l.reader
