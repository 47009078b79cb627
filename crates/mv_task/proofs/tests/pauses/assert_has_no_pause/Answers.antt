use Rattle.std.proofs.Common.{Some, sym, ap, ◌∙◌}
use Rattle.std.proofs.lemmas.Bool.{false≢true}
use denote.Enum.Bare.{sameb}
use Rattle.mv_element.specs.contracts.element.Phase.{the_type}
use Rattle.mv_element.specs.declared.element.Phase.TheVariants.{Paused}
use Rattle.mv_task.proofs.tests.pauses.assert_has_no_pause.Goals as goal

pub returns : goal.returns
returns g c = record {
  place = c.in-Some-default-Element.field-0-0;
  state = c.in-Some-default-Element.state;
  unpacks = sym c.unpack.ensures.word ∙ (c.in-Some-default-Element.is
      ∙ ap (λ w. Some (c.in-Some-default-Element.field-0-0, w)) c.in-Some-default-Element.field-0-1-is);
  phase = λ e. false≢true (sym c.if-eq.false ∙ (c.eq.ensures ∙ ap (λ p. sameb the_type p Paused) e));
}
