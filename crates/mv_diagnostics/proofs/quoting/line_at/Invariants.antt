use Rattle.std.proofs.Common.{◌≡◌, length}
use Rattle.mv_line.specs.Line.{lines_of}
use Rattle.mv_diagnostics.specs.Quote.{line_from}
use Rattle.mv_diagnostics.proofs.quoting.line_at.Given as goal

-- the line is among those that are left as it is among all
abbrev pub invariant-lines : goal.invariant-lines
invariant-lines l = line_from l.number l.lines.number (lines_of l.lines.left.now) ≡ line_from l.number 1 (lines_of l.bytes)

abbrev pub decreases-lines : goal.decreases-lines
decreases-lines l = length l.lines.left.now
