use Rattle.mv_script.proofs.Suffices.{suffices}
use Rattle.mv_script.proofs.laws.costs_suffice.Goals as goal

pub returns : goal.returns
returns c = suffices
