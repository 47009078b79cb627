-- The number of one volume more was written.
use Rattle.std.proofs.Common.{refl}
use Rattle.mv_rounds.proofs.Writes.{restores_next}
use Rattle.mv_rounds.proofs.volumes.restore.Goals as goal

pub loop-volume-preserved : goal.loop-volume-preserved
loop-volume-preserved g c =
    let at = c.loop-volume in
    restores_next c.args.station.now c.args.numbers.now at.volume _ _ c.args.task.now at.task c.write_volume.new.task at.invariant
    c.loop-volume-test.true refl c.write_volume.ensures.served
