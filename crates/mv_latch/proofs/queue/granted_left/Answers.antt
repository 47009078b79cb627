use Rattle.std.proofs.Common.{not, refl, ap, arith, length}
use Rattle.std.proofs.lemmas.List.Filters.{length-filter_both}
use Rattle.mv_latch.specs.Selection.{selects}
use Rattle.mv_latch.specs.Latch.{left_without}
use Rattle.mv_latch.proofs.queue.granted_left.Goals as goal

pub returns : goal.returns
returns c =
    let parts =
    length-filter_both (selects c.args.selection) (λ q. not (selects c.args.selection q)) (λ _. refl) c.granted-held.result.now in
    omega (arith, ap (λ z. length (left_without (selects c.args.selection) z)) c.granted-held.ensures)
