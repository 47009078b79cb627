use Rattle.mv_guarded.proofs.Exclusion.{one_holder_each}
use Rattle.mv_guarded.proofs.laws.exclusive_latches_have_one_holder.Goals as goal

pub returns : goal.returns
returns c = one_holder_each
