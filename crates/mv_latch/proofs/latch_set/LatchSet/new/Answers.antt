use Rattle.mv_latch.proofs.Quotas.{sound_new}
use Rattle.mv_latch.proofs.InMemory.{ready_new}
use Rattle.mv_latch.proofs.latch_set.LatchSet.new.Goals as goal

pub invariant_of-result : goal.invariant_of-result
invariant_of-result c =
    ready_new _ c.loop.counter c.loop.invariant.empty c.loop.invariant.room
    (sound_new c.loop.counter c.args.callers c.args.quota c.args.posted c.requires)
