-- One more number.
use Rattle.std.proofs.Common.{get_or, refl}
use Rattle.mv_work.proofs.brought.Outcomes.{numbers_more}
use Rattle.mv_work.proofs.closing.volumes_of.Goals as goal

pub loop-volume-preserved : goal.loop-volume-preserved
loop-volume-preserved c =
    numbers_more (λ v. get_or c.args.held.now v 0) c.loop-volume.volume (get_or c.args.held.now c.loop-volume.volume 0)
    c.loop-volume.volumes.items c.push.new.self.items c.in_ok-push.ensures.items refl c.loop-volume.invariant
