-- The row at the two phases in which a release is accepted.
use Rattle.std.proofs.Common.{◌≡◌, ℕ, refl, sym, ap, ◌∙◌}
use Rattle.mv_element.specs.declared.element.ElementState.{ElementState}
use Rattle.mv_element.specs.declared.element.Phase.{Phase}
use Rattle.mv_element.specs.declared.element.Phase.TheVariants.{Reset, Paused}
use Rattle.mv_element.specs.declared.operation.ElementReply.{ElementReply}
use Rattle.mv_element.specs.declared.operation.ElementReply.TheVariants.{Early, Woke}
use Rattle.mv_element.specs.Element.{prereleased, released}
use Rattle.mv_element.specs.Table.{release_step}
use Rattle.mv_element.proofs.table.release.Goals as goal

at_reset : (p : Phase) (d : ℕ) (s : ElementState) → p ≡ Reset → release_step p d s ≡ (prereleased s.generation d, Early)
at_reset p d s e = rw e refl

at_paused : (p : Phase) (d : ℕ) (s : ElementState) → p ≡ Paused → release_step p d s ≡ (released s.generation d, Woke)
at_paused p d s e = rw e refl

pub returns-in-Reset : goal.returns-in-Reset
returns-in-Reset c =
    ap (λ (s : ElementState). let r : ElementState × ElementReply = (s, Early) in r) c.prereleased.ensures
    ∙ sym (at_reset c.args.state.phase c.args.code c.args.state c.in-Reset.is)

pub returns-in-Paused : goal.returns-in-Paused
returns-in-Paused c =
    ap (λ (s : ElementState). let r : ElementState × ElementReply = (s, Woke) in r) c.released.ensures
    ∙ sym (at_paused c.args.state.phase c.args.code c.args.state c.in-Paused.is)
