use Rattle.std.proofs.Common.{◌==◌, not, sym, ap, ◌∙◌}
use Rattle.mv_config.specs.Setup.{owner_of}
use Rattle.mv_board.specs.Faces.{BoardFace}
use Rattle.mv_calls.specs.Keeping.{nothing_kept}
use Rattle.mv_calls.proofs.Making.{kept_caller}
use Rattle.mv_wait.proofs.station.Station.is_others_block.Goals as goal

pub returns : goal.returns
returns c =
    let caller = c.number.ensures.number ∙ sym (kept_caller (nothing_kept c.args.task.now.number) c.args.task.now.log) in
    let config = c.config.ensures ∙ ap (λ (b : BoardFace). b.config) c.self.view_is in
    ap not (c.owns_ecb.ensures.owned ∙ (λ i. owner_of (config i) c.args.ecb == caller i))
