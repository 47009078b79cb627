use Rattle.std.proofs.Common.{◌≡◌, [], replicate}
use Rattle.mv_work.proofs.reporting.no_lines.Given as goal

abbrev pub invariant-loop : goal.invariant-loop
invariant-loop l = l.lines.items ≡ replicate l.counter []
