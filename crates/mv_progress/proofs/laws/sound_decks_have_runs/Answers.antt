-- The law is has_a_run of Undoomed.
use Rattle.mv_plan.proofs.deck.Planned.{planned}
use Rattle.mv_progress.proofs.Undoomed.{has_a_run}
use Rattle.mv_progress.proofs.laws.sound_decks_have_runs.Goals as goal

pub returns : goal.returns
returns c = λ deck initiators some sound. has_a_run deck initiators some (planned deck initiators sound)
