use Rattle.std.proofs.Common.{◌≡◌, ◌<◌, ◌≤◌, sym, ap, subst, arith}
use Rattle.mv_element.specs.declared.element.Token.{Token}
use Rattle.mv_polled.proofs.Pauses.{pause_may_begin}
use Rattle.mv_tests.proofs.tests.polls.a_pause.Goals as goal

pub returns-clause-stage : goal.returns-clause-stage
returns-clause-stage g c =
    let t = c.allocate.new.task in
    let token = c.token.result in
    let own : token.element ≡ 0 = ap (λ (k : Token). k.element) c.token.ensures in
    let enough : 2 ≤ t.left = omega (arith, c.left-2.ensures.left) in
    pause_may_begin c.args.station.now.config c.new.result token t c.new.ensures
    (record {
      rest = c.allocate.ensures.served.made.rest;
      element = subst (λ n. token.element < n) (sym c.requires.elements) (subst (λ m. m < 8) (sym own) (omega arith));
      left = enough;
    })
