use Rattle.std.proofs.Common.{List, subst, sym}
use Rattle.mv_deck.specs.Deck.{JobData}
use Rattle.mv_deck.specs.Sound.{IsSound}
use Rattle.mv_deck.proofs.Sounds.{sound}
use Rattle.mv_tests.proofs.tests.orders.deck_of.Goals as goal

pub returns : goal.returns
returns g c =
    subst (λ (d : List JobData). IsSound d c.args.initiators) (sym c.in-Ok.ensures.deck.1)
    (sound c.args.text.now c.args.initiators c.in-Ok.ensures.deck.0)
