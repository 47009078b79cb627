use Rattle.std.proofs.Common.{◌≡◌, length}
use Rattle.mv_line.specs.Line.{lines_of}
use Rattle.mv_deck.specs.Statement as statement
use Rattle.mv_deck.proofs.form.version_of.Given as goal

abbrev pub invariant-lines : goal.invariant-lines
invariant-lines l = statement.version_of (lines_of l.lines.left.now) ≡ statement.version_of (lines_of l.bytes)

abbrev pub decreases-lines : goal.decreases-lines
decreases-lines l = length l.lines.left.now
