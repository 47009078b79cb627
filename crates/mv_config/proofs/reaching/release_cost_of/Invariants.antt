-- The greatest reach so far.
use Rattle.std.proofs.Common.{◌≡◌, ◌≤◌, take}
use Rattle.mv_config.specs.Limits.{highest_reach}
use Rattle.mv_config.specs.Reach.{greatest}
use Rattle.mv_config.proofs.reaching.release_cost_of.Given as goal

abbrev pub invariant-loop-reach : goal.invariant-loop-reach
invariant-loop-reach l = record {
  so_far : l.most ≡ greatest (take l.reach-index l.reaches);
  fits : l.most ≤ highest_reach;
}
