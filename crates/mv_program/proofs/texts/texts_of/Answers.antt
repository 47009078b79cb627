-- The deck that was read is the one that the input states.
use Rattle.std.proofs.Common.{List, subst, sym}
use Rattle.mv_deck.specs.Deck.{JobData}
use Rattle.mv_deck.specs.Sound.{IsSound}
use Rattle.mv_deck.proofs.Sounds.{sound}
use Rattle.mv_program.specs.Texts.{IsJournalOfRun}
use Rattle.mv_program.proofs.texts.texts_of.Goals as goal

pub texts_of_deck-requires-clause-sound : goal.texts_of_deck-requires-clause-sound
texts_of_deck-requires-clause-sound g c = λ κs live.
    subst (λ (d : List JobData). IsSound d c.args.initiators) (sym c.in-Ok.ensures.deck.1)
    (sound c.args.input.now c.args.initiators c.in-Ok.ensures.deck.0)

pub returns-clause-run : goal.returns-clause-run
returns-clause-run g c =
    subst (λ (d : List JobData). IsJournalOfRun d c.args.initiators c.in_ok-texts.texts.journal)
    c.in-Ok.ensures.deck.1 c.in_ok-texts.ensures.journal
