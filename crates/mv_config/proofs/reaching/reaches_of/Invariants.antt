-- The reaches of the blocks from this one on are known.
use Rattle.std.proofs.Common.{◌≡◌, ℕ, ◌<◌, ◌≤◌, length, slice_index}
use Rattle.std.specs.List.{AllByRecursion}
use Rattle.mv_config.specs.Limits.{highest_reach}
use Rattle.mv_config.specs.Config.{setup_of}
use Rattle.mv_config.specs.Reach.{reach}
use Rattle.mv_config.proofs.reaching.reaches_of.Given as goal

abbrev pub invariant-loop-ecb : goal.invariant-loop-ecb
invariant-loop-ecb l = record {
  within : l.ecb ≤ length l.config.owners.items;
  blocks : length l.reaches.items ≡ length l.config.owners.items;
  cut : AllByRecursion (λ r. r ≤ highest_reach) l.reaches.items;
  known : (e : ℕ) → l.ecb ≤ e → e < length l.config.owners.items → slice_index l.reaches.items e ≡ reach (setup_of l.config) e;
}

abbrev pub decreases-loop-ecb : goal.decreases-loop-ecb
decreases-loop-ecb l = l.ecb
