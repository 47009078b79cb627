use Rattle.std.proofs.Common.{◌≡◌, ◌++◌, take, flat_map, codes, decimal}
use Rattle.mv_report.proofs.report.push_volumes.Given as goal

abbrev pub invariant-loop-volume : goal.invariant-loop-volume
invariant-loop-volume l =
    l.out.items ≡ l.initial.out.items ++ flat_map (λ volume. codes " " ++ decimal volume) (take l.volume-index l.volumes)
