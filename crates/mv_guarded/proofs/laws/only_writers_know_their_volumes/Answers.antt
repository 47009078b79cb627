use Rattle.mv_guarded.proofs.Volumes.{only_writer}
use Rattle.mv_guarded.proofs.laws.only_writers_know_their_volumes.Goals as goal

pub returns : goal.returns
returns c = only_writer
