-- The greatest sum is among the best so far and those of the exits that are left.
use Rattle.std.proofs.Common.{◌≡◌, ◌-◌, ◌<◌, ◌≤◌, true, length, map, max, take, slice_get, slice_index}
use Rattle.mv_config.specs.Config.{exit_of}
use Rattle.mv_config.specs.Reach.{exits_of, greatest, total}
use Rattle.mv_config.specs.Setup.{SetupExit, starts_from}
use Rattle.mv_config.proofs.reaching.greatest_total.Given as goal

abbrev pub invariant-loop-at : goal.invariant-loop-at
invariant-loop-at l = record {
  left : max l.best (greatest (map (λ (x : SetupExit). total (λ t. slice_index l.reaches t) x.targets)
      (exits_of l.ecb (take l.at (map exit_of l.exits))))) ≡ greatest
      (map (λ (x : SetupExit). total (λ t. slice_index l.reaches t) x.targets) (exits_of l.ecb (map exit_of l.exits)));
  below : l.at ≤ length l.exits;
  starts : 0 < l.at → starts_from l.ecb (slice_get (map exit_of l.exits) (l.at - 1)) ≡ true;
  fits : l.best ≤ 4194304;
}

abbrev pub decreases-loop-at : goal.decreases-loop-at
decreases-loop-at l = l.at
