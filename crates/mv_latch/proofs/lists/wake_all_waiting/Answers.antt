use Rattle.std.proofs.Common.{◌<◌, ◌∙◌, ap, length, arith}
use Rattle.std.proofs.lemmas.List.{length-map, drop-map}
use Rattle.mv_latch.specs.Latch.{waiting_of}
use Rattle.mv_latch.specs.Queues.{items_of}
use Rattle.mv_latch.proofs.Purges.{items_at, turn_fits}
use Rattle.mv_latch.proofs.lists.wake_all_waiting.Goals as goal

pub wake_waiting-requires : goal.wake_waiting-requires
wake_waiting-requires c =
    let queues = c.args.lists.now in
    let lt : c.loop-list.list-index < length (items_of queues) = simp length-map (omega arith) in
    let told = rw (← drop-map) at c.loop-list.invariant.told in
    let e = items_at queues c.loop-list.list-index c.list-item.result (omega arith) in
    let here = c.deref.ensures.value ∙ ap (λ v. v.items) c.list-item.is ∙ e in
    omega (
      arith,
      ap (λ z. length (waiting_of c.args.requestor z)) here,
      turn_fits 1 (waiting_of c.args.requestor) (items_of queues) _ _ c.loop-list.list-index lt told,
      c.requires,
    )
