-- One task, and the others.
use Rattle.std.proofs.Common.{arith}
use Rattle.std.proofs.lemmas.Result.{on_ok_weaker}
use Rattle.mv_explain.proofs.TaskCounts.{by_task_more}
use Rattle.mv_explain.proofs.by_task.+push_by_task.Goals as goal

pub returns : goal.returns
returns t c =
    on_ok_weaker c.push_by_task.result
    (by_task_more c.args.entries.now c.args.out.now.items c.push_task.new.out.items c.push_by_task.new.out.items c.args.from c.args.tasks
    (omega arith) c.in_ok-push_task.ensures) c.push_by_task.ensures
