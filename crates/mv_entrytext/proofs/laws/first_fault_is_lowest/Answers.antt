use Rattle.mv_entrytext.proofs.Lowest.{lowest}
use Rattle.mv_entrytext.proofs.laws.first_fault_is_lowest.Goals as goal

pub returns : goal.returns
returns c = lowest
