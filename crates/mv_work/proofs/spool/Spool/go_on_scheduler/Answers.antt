use Rattle.std.proofs.Common.{subst}
use Rattle.mv_work.specs.declared.work.Role.TheVariants as role
use Rattle.mv_work.specs.Works.{ToldAs}
use Rattle.mv_work.proofs.Going.{scheduler_come}
use Rattle.mv_work.proofs.Waits.{comes_on}
use Rattle.mv_work.proofs.spool.Spool.go_on_scheduler.Goals as goal

pub resume_scheduler-next-requires-clause-answer : goal.resume_scheduler-next-requires-clause-answer
resume_scheduler-next-requires-clause-answer g c =
    let p = c.requires.told in
    let told = subst (λ at. ToldAs c.args.self.now (role.Scheduler at) p.0 c.args.got c.args.task.now) c.in-Some.is p.1 in told.1.answers

pub resume_scheduler-next-requires-clause-task : goal.resume_scheduler-next-requires-clause-task
resume_scheduler-next-requires-clause-task g c =
    let p = c.requires.told in
    let told = subst (λ at. ToldAs c.args.self.now (role.Scheduler at) p.0 c.args.got c.args.task.now) c.in-Some.is p.1 in told.1.task

pub returns : goal.returns
returns g c t was =
    let s = c.args.self.now in
    let told = subst (λ at. ToldAs s (role.Scheduler at) t c.args.got c.args.task.now) c.in-Some.is was in
    scheduler_come s t c.resume_scheduler-next.new.task c.keep_stage.result c.args.stage.now c.keep_stage.new.stage
    c.resume_scheduler-next.result c.keep_stage.ensures.stage c.keep_stage.ensures.need told.0
    (comes_on told.1.leads c.resume_scheduler-next.ensures)
