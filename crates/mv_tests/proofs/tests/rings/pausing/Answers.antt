use Rattle.std.proofs.Common.{◌≡◌, ◌<◌, sym, ap, ◌∙◌, subst}
use Rattle.mv_element.specs.declared.element.Token.{Token}
use Rattle.mv_polled.proofs.Pauses.{pause_may_begin}
use Rattle.mv_tests.proofs.tests.rings.pausing.Goals as goal

pub returns : goal.returns
returns c =
    let t = c.args.task in
    let token = c.token.result in
    let own : token.element ≡ t.number = ap (λ (k : Token). k.element) c.token.ensures ∙ c.number.ensures.number in (
      c.requires.task,
      tt,
      pause_may_begin c.args.station.now.config c.new-call.result token t c.new-call.ensures
          (record {
            rest = c.requires.rest;
            element = subst (λ n. token.element < n) (sym c.requires.elements) (subst (λ m. m < 8) (sym own) c.requires.number);
            left = c.requires.left;
          }),
    )
