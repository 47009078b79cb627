use Rattle.mv_guarded.proofs.Finishing.{unfinished_continue}
use Rattle.mv_guarded.proofs.laws.released_latches_hold_up_no_caller.Goals as goal

pub returns : goal.returns
returns c = unfinished_continue
