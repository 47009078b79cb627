use Rattle.std.proofs.Common.{length}
use Rattle.mv_line.specs.Fault.{HasPassed}
use Rattle.mv_line.specs.Line.{lines_of}
use Rattle.mv_line.proofs.reading.read_lines.Given as goal

-- what the lines so far have said is what the reader has taken
abbrev pub invariant-lines : goal.invariant-lines
invariant-lines g l = (setting : g.R.LineReader.Setting) (start : g.R.LineReader.Said)
    → g.R.LineReader.HasTaken setting start l.initial.reader
    → (said : g.R.LineReader.Said) × g.R.LineReader.HasTaken setting said l.reader
    × HasPassed (g.R.LineReader.rules setting) start (lines_of l.bytes) l.lines.number said (lines_of l.lines.left.now)

abbrev pub decreases-lines : goal.decreases-lines
decreases-lines g l = length l.lines.left.now
