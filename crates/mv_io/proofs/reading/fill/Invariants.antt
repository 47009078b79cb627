use Rattle.std.proofs.Common.{length, ◌-◌, ◌≤◌, IfSome}
use Rattle.mv_io.specs.Source.{GivesFront}
use Rattle.mv_io.proofs.reading.fill.Given as goal

abbrev pub invariant-loop-filled : goal.invariant-loop-filled
invariant-loop-filled g l = record {
  within : l.filled ≤ length l.buf;
  given : IfSome (g.S.Source.left l.initial.src) (λ xs. GivesFront xs (g.S.Source.left l.src) l.buf l.filled);
  count : g.S.Source.faults l.initial.src ≤ g.S.Source.faults l.src;
}

abbrev pub decreases-loop-filled : goal.decreases-loop-filled
decreases-loop-filled g l = length l.initial.buf - l.filled
