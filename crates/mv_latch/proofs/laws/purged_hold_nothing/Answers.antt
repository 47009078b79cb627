use Rattle.mv_latch.proofs.Holders.{none_left}
use Rattle.mv_latch.proofs.laws.purged_hold_nothing.Goals as goal

pub returns : goal.returns
returns c = λ caller id requestor lists. none_left requestor lists
