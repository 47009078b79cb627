-- The map from names to places in the deck.
use Rattle.std.specs.Prelude.{ℕ, List, Option, unwrap_or}
use Rattle.std.specs.HashMap.{get_by}
use Rattle.std.specs.Str.{bytes_eq}
use Rattle.mv_deck.specs.declared.deck.After.{After}
use Rattle.mv_deck.specs.declared.names.Names.{Names}
use Rattle.mv_deck.specs.Deck.{most_of}
use Rattle.mv_deck.specs.Statement.{AfterPart}

-- the place of a name, if it has one
abbrev pub place_in : Names → List ℕ → Option ℕ
place_in names name = get_by (λ key. bytes_eq name key.now) names.places

-- the job that a part names, and the end code that it accepts
abbrev pub after_in : Names → AfterPart → After
after_in names part = record { job = unwrap_or (place_in names part.name) 0; most = most_of part.most }
