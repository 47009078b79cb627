use Rattle.mv_latch.proofs.Numbers.{still_new}
use Rattle.mv_latch.proofs.laws.other_ids_stay_new.Goals as goal

pub returns : goal.returns
returns c = still_new
