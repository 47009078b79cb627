use Rattle.mv_latch.proofs.Splits.{granted_split}
use Rattle.mv_latch.proofs.laws.granted_come_first.Goals as goal

pub returns : goal.returns
returns c = granted_split
