use Rattle.std.proofs.Common.{sym, subst}
use Rattle.mv_calls.specs.Keeping.{kept_after, Kept}
use Rattle.mv_wait.specs.Keep.{Keeps}
use Rattle.mv_wait.proofs.Keeping.{block_kept, element_follows}
use Rattle.mv_wait.proofs.keep.Keep.follow.Goals as goal

pub returns-in-Ecb-Ecb-Ecb-clause-kept : goal.returns-in-Ecb-Ecb-Ecb-clause-kept
returns-in-Ecb-Ecb-Ecb-clause-kept c kept same all =
    let a = c.in-Ecb-Ecb-Ecb in
    subst (λ (z : Kept). Keeps z c.follow_block.new.self) (λ i. kept_after kept (sym a.is-0 i) (sym a.is-1 i) (sym a.is-2 i))
    (block_kept kept c.args.self.now c.follow_block.new.self a.n a.op a.reply c.follow_block.ensures.same
    (c.follow_block.ensures.kept kept.extended all.extended) all)

pub returns-in-Element-Element-Element-clause-kept : goal.returns-in-Element-Element-Element-clause-kept
returns-in-Element-Element-Element-clause-kept c kept same all =
    let a = c.in-Element-Element-Element in
    subst (λ (z : Kept). Keeps z c.follow_element.new.self) (λ i. kept_after kept (sym a.is-0 i) (sym a.is-1 i) (sym a.is-2 i))
    (element_follows kept c.args.self.now c.follow_element.new.self a.n a.op a.reply c.follow_element.ensures.same
    (c.follow_element.ensures.kept kept.in_use kept.generation all.elements) all)
