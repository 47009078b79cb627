-- A spool that runs, as contracts see it.
use Rattle.std.specs.Prelude.{◌≡◌, ℕ, ◌≤◌, List, length}
use Rattle.mv_board.specs.Faces.{BoardFace}
use Rattle.mv_deck.specs.Deck.{JobData}
use Rattle.mv_deck.specs.Sound.{IsSound}
use Rattle.mv_deck.specs.Weight.{most_initiators}
use Rattle.mv_plan.specs.SpoolSetup.{jobs_limit, spool_setup}

-- its board, the jobs of its deck, and how many initiators it has
pub record SpoolFace : Type 0 where
  pub board : BoardFace
  pub jobs : List JobData
  pub initiators : ℕ

-- the spool of a board and a deck
abbrev pub spool_of : BoardFace → List JobData → ℕ → SpoolFace
spool_of b jobs i = record { board = b; jobs = jobs; initiators = i }

-- the initiators can run the deck, and the board is configured for them
pub record IsSpool (s : SpoolFace) : Type 0 where
  pub few : length s.jobs ≤ jobs_limit
  pub initiators : s.initiators ≤ most_initiators
  pub sound : IsSound s.jobs s.initiators
  pub config : s.board.config ≡ spool_setup s.jobs s.initiators
