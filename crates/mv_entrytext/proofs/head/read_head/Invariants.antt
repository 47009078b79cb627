use Rattle.std.proofs.Common.{length}
use Rattle.mv_entrytext.specs.Draft.{IsAt, head_seen}
use Rattle.mv_entrytext.proofs.head.read_head.Given as goal

abbrev pub invariant-lines : goal.invariant-lines
invariant-lines l = IsAt l.bytes l.lines (head_seen l.draft)

abbrev pub decreases-lines : goal.decreases-lines
decreases-lines l = length l.lines.left.now
