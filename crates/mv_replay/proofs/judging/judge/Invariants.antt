-- The reader stands behind entries that have been judged so far. None of them is kept.
use Rattle.std.proofs.Common.{ℕ, List}
use Rattle.mv_machine.specs.declared.entry.Entry.{Entry}
use Rattle.mv_operationtext.specs.declared.version.Version.{Version}
use Rattle.mv_entrytext.specs.Reader.{left_in, IsReadTo}
use Rattle.mv_replay.specs.Course.{is_copied, IsCourse}
use Rattle.mv_replay.proofs.judging.judge.Given as goal

abbrev pub invariant-entries : goal.invariant-entries
invariant-entries l =
    (v : Version) × (es : List Entry) × (ns : List ℕ) × IsReadTo v l.bytes l.course.config es ns l.reader
    × IsCourse v (is_copied l.fn.command v) l.course.config es ns l.course.wrong l.course.judge l.course.copy

abbrev pub decreases-entries : goal.decreases-entries
decreases-entries l = left_in l.reader
