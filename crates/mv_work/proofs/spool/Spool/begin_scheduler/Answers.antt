use Rattle.std.proofs.Common.{◌≤◌, get_or, rules, subst, Ok}
use Rattle.mv_plan.specs.SpoolSetup.{scheduler, task_budgets}
use Rattle.mv_work.specs.Scheduling.{jobs_due}
use Rattle.mv_work.specs.Spool.{IsSpool}
use Rattle.mv_work.proofs.Going.{scheduler_come}
use Rattle.mv_work.proofs.Spools.{fresh_rests}
use Rattle.mv_work.proofs.Waits.{asks_first}
use Rattle.mv_work.proofs.spool.Spool.begin_scheduler.Goals as goal

pub returns : goal.returns
returns g c t fresh =
    let s = c.args.self.now in
    let spool = subst IsSpool c.self.view_is c.self.invariant in
    let few : jobs_due s 0 ≤ get_or (task_budgets s.jobs s.initiators) scheduler 0 = search rules in
    scheduler_come s t t c.keep_stage.result c.args.stage.now c.keep_stage.new.stage (Ok c.schedule-next.result) c.keep_stage.ensures.stage
    c.keep_stage.ensures.need fresh.number (asks_first c.schedule-next.ensures (fresh_rests spool scheduler (jobs_due s 0) t fresh few))
