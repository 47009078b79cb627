use Rattle.std.proofs.Common.{◌<◌, length}
use Rattle.std.specs.List.{AllByRecursion}
use Rattle.mv_task.proofs.tests.waits.first_blocks.Given as goal

abbrev pub invariant-loop-ecb : goal.invariant-loop-ecb
invariant-loop-ecb g l = record { blocks : AllByRecursion (λ e. e < length l.station.config.owners) l.ecbs.items }
