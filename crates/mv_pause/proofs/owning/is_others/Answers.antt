use Rattle.std.proofs.Common.{◌==◌, not, sym, ap, ◌∙◌}
use Rattle.mv_config.specs.Setup.{element_owner}
use Rattle.mv_calls.specs.Keeping.{nothing_kept}
use Rattle.mv_calls.proofs.Making.{kept_caller}
use Rattle.mv_pause.proofs.owning.is_others.Goals as goal

pub returns : goal.returns
returns c =
    let caller = c.number.ensures.number ∙ sym (kept_caller (nothing_kept c.args.task.now.number) c.args.task.now.log) in
    ap not (c.owns_element.ensures.owned ∙ (λ i. element_owner (c.config.ensures i) c.args.token.element == caller i))
