use Rattle.std.proofs.Common.{◌-◌, length}
use Rattle.mv_pollscript.proofs.text.+push_tasks.Given as goal

abbrev pub decreases-push_tasks : goal.decreases-push_tasks
decreases-push_tasks l = length l.script.now.tasks.items - l.from
