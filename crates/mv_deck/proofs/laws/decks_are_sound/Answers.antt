use Rattle.mv_deck.proofs.Sounds.{sound}
use Rattle.mv_deck.proofs.laws.decks_are_sound.Goals as goal

pub returns : goal.returns
returns c = sound
