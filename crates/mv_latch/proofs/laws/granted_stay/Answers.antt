use Rattle.mv_latch.specs.LatchSet.{list_of, latch_step}
use Rattle.mv_latch.proofs.Changes.{latch_changes, stays_granted}
use Rattle.mv_latch.proofs.laws.granted_stay.Goals as goal

pub returns : goal.returns
returns c =
    λ caller id latch op before request held still. stays_granted id (list_of before latch)
    (list_of (latch_step caller id op before).0 latch) request (latch_changes caller id op before latch) held still
