-- The script that was read has the tasks that the text states.
use Rattle.std.proofs.Common.{ap}
use Rattle.mv_script.specs.Script.{ScriptData}
use Rattle.mv_diagnostics.proofs.scripts.good_script.Goals as goal

pub returns-in-Ok : goal.returns-in-Ok
returns-in-Ok c = ap (λ (d : ScriptData). d.tasks) c.in-Ok.ensures.script.1
