-- A deck without fault is one that can be run.
use Rattle.std.proofs.Common.{◌≤◌, List, sym, subst}
use Rattle.mv_deck.specs.Deck.{JobData}
use Rattle.mv_deck.specs.Weight.{heaviest, weight}
use Rattle.mv_deck.proofs.Sounds.{sound}
use Rattle.mv_diagnostics.proofs.decks.good_deck.Goals as goal

pub returns-in-Ok-clause-light : goal.returns-in-Ok-clause-light
returns-in-Ok-clause-light c =
    subst (λ (jobs : List JobData). weight jobs 1 ≤ heaviest) (sym c.in-Ok.ensures.deck.1)
    (sound c.args.bytes.now 1 c.requires.sound).light
