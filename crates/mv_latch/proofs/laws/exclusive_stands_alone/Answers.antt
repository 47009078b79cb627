use Rattle.mv_latch.proofs.Holders.{alone}
use Rattle.mv_latch.proofs.laws.exclusive_stands_alone.Goals as goal

pub returns : goal.returns
returns c = alone
