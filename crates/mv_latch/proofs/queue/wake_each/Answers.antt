use Rattle.std.proofs.Common.{ap, length, arith, length-append}
use Rattle.std.proofs.lemmas.List.{length-map, length-drop}
use Rattle.mv_latch.proofs.queue.wake_each.Goals as goal

pub push_reserved-requires : goal.push_reserved-requires
push_reserved-requires c =
    let e = simp (length-append, length-map, length-drop) at (ap length c.loop-request.invariant.told) in
    omega arith
