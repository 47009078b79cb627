-- The sum so far, and what is left of it.
use Rattle.std.proofs.Common.{◌≡◌, ◌+◌, ◌*◌, ◌≤◌, drop, slice_index}
use Rattle.mv_config.specs.Limits.{highest_reach}
use Rattle.mv_config.specs.Reach.{total}
use Rattle.mv_config.proofs.reaching.total.Given as goal

abbrev pub invariant-loop-target : goal.invariant-loop-target
invariant-loop-target l = record {
  so_far : l.sum + total (λ t. slice_index l.reaches t) (drop l.target-index l.targets) ≡ total (λ t. slice_index l.reaches t) l.targets;
  fits : l.sum ≤ l.target-index * highest_reach;
}
