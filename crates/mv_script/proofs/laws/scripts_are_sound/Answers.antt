use Rattle.mv_script.proofs.Sounds.{sound}
use Rattle.mv_script.proofs.laws.scripts_are_sound.Goals as goal

pub returns : goal.returns
returns c = sound
