-- The law is spool_setup_is_valid of deck/Setup.
use Rattle.mv_plan.proofs.deck.Setup.{spool_setup_is_valid}
use Rattle.mv_plan.proofs.laws.spool_setups_are_valid.Goals as goal

pub returns : goal.returns
returns c = λ deck initiators some few sound. spool_setup_is_valid deck initiators some few sound.light
