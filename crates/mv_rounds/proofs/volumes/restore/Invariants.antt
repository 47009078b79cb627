use Rattle.std.proofs.Common.{take}
use Rattle.mv_rounds.specs.Restored.{HasRestored}
use Rattle.mv_rounds.proofs.volumes.restore.Given as goal

abbrev pub invariant-loop-volume : goal.invariant-loop-volume
invariant-loop-volume g l = HasRestored l.station (take l.volume l.numbers) l.fn.task l.task
