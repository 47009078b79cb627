use Rattle.mv_script.proofs.HandedOut.{handed_out}
use Rattle.mv_script.proofs.laws.events_are_handed_out.Goals as goal

pub returns : goal.returns
returns c = handed_out
