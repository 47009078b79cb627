use Rattle.std.proofs.Common.{◌-◌}
use Rattle.mv_explain.proofs.by_task.+push_by_task.Given as goal

abbrev pub decreases-push_by_task : goal.decreases-push_by_task
decreases-push_by_task l = l.tasks - l.from
