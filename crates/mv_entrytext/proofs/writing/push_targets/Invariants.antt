use Rattle.std.proofs.Common.{◌≡◌, ◌++◌, take, codes, decimal}
use Rattle.std.specs.List.{flat_map}
use Rattle.mv_entrytext.proofs.writing.push_targets.Given as goal

abbrev pub invariant-loop-target : goal.invariant-loop-target
invariant-loop-target l =
    l.out.items ≡ l.initial.out.items ++ flat_map (λ target. codes " " ++ decimal target) (take l.target-index l.targets)
