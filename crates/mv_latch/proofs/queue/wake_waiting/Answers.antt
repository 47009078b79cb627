use Rattle.std.proofs.Common.{ap, length, arith, length-append}
use Rattle.std.proofs.lemmas.Bool.{eq-eqb}
use Rattle.std.proofs.lemmas.List.{length-map}
use Rattle.mv_latch.specs.Request.{of_requestor}
use Rattle.mv_latch.proofs.Splits.{pending}
use Rattle.mv_latch.proofs.queue.wake_waiting.Goals as goal

pub push_reserved-requires : goal.push_reserved-requires
push_reserved-requires c =
    let e = simp (length-append, length-map) at (ap length c.loop-request.invariant.told) in
    let more =
    pending (of_requestor c.args.requestor) c.waiting-request-items.result.now c.loop-request.request-index _ c.loop-request-test.true
    (eq-eqb _ _ c.if-request-requestor.true) in
    omega arith
