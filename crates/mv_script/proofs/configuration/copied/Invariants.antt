-- The exits so far.
use Rattle.std.proofs.Common.{◌≡◌, map, take}
use Rattle.mv_config.specs.Config.{exit_of}
use Rattle.mv_script.proofs.configuration.copied.Given as goal

abbrev pub invariant-loop-exit : goal.invariant-loop-exit
invariant-loop-exit l = map exit_of l.copies.items ≡ take l.exit-index (map exit_of l.exits)
