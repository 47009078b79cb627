-- The requests that are selected can be counted.
use Rattle.std.proofs.Common.{ap, arith}
use Rattle.mv_latch.specs.LatchSet.{count_in}
use Rattle.mv_latch.specs.Queues.{items_of}
use Rattle.mv_latch.specs.Inside.{view_of}
use Rattle.mv_latch.specs.Selection.{selects}
use Rattle.mv_latch.proofs.Quotas.{counts_fit}
use Rattle.mv_latch.proofs.latch_set.LatchSet.count.Goals as goal

pub count_in_all-requires : goal.count_in_all-requires
count_in_all-requires c =
    let t = selects c.args.selection in
    omega (arith, counts_fit t (view_of c.self.inside) c.self.invariant.sound, ap (λ z. count_in t (items_of z)) c.deref.ensures.value)
