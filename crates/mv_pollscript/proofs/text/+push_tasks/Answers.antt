-- One task, and the others.
use Rattle.std.proofs.Common.{arith}
use Rattle.std.proofs.lemmas.Result.{on_ok_weaker}
use Rattle.mv_machine.specs.State.{system_of}
use Rattle.mv_pollscript.proofs.Texts.{tasks_more}
use Rattle.mv_pollscript.proofs.text.+push_tasks.Goals as goal

pub returns : goal.returns
returns t c =
    on_ok_weaker c.push_tasks.result
    (tasks_more c.args.run.now.config (system_of c.args.run.now.state) c.args.script.now.tasks.items c.args.run.now.answers.items
    c.args.out.now.items c.push_task.new.out.items c.push_tasks.new.out.items c.args.from (omega arith) c.in_ok-push_task.ensures)
    c.push_tasks.ensures
