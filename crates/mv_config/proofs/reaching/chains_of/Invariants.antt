-- The chains of the exits so far.
use Rattle.std.proofs.Common.{map}
use Rattle.mv_config.specs.Chains.{AreChains}
use Rattle.mv_config.specs.Config.{exit_of}
use Rattle.mv_config.proofs.reaching.chains_of.Given as goal

abbrev pub invariant-loop-i : goal.invariant-loop-i
invariant-loop-i l = AreChains l.ecbs (map exit_of l.exits) l.i l.last.items l.before.items
