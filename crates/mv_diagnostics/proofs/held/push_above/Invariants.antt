-- The lines so far, and those that are left.
use Rattle.std.proofs.Common.{◌≡◌, ◌++◌, length}
use Rattle.mv_line.specs.Line.{lines_of}
use Rattle.mv_diagnostics.specs.Held.{lines_above}
use Rattle.mv_diagnostics.proofs.held.push_above.Given as goal

abbrev pub invariant-lines : goal.invariant-lines
invariant-lines l = l.out.items ++ lines_above l.number l.lines.number (lines_of l.lines.left.now)
    ≡ l.initial.out.items ++ lines_above l.number 1 (lines_of l.bytes)

abbrev pub decreases-lines : goal.decreases-lines
decreases-lines l = length l.lines.left.now
