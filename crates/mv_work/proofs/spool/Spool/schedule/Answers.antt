use Rattle.std.proofs.Common.{[], ◌∷◌, arith}
use Rattle.std.proofs.lemmas.List.{drop_more}
use Rattle.mv_plan.specs.Jobs.{no_job}
use Rattle.mv_work.proofs.Calls.{wait_asked_in}
use Rattle.mv_work.proofs.Dispatching.{due_next, due_over, jobs_over}
use Rattle.mv_work.proofs.Waits.{asks_as}
use Rattle.mv_work.proofs.spool.Spool.schedule.Goals as goal

pub returns-then-job-jobs : goal.returns-then-job-jobs
returns-then-job-jobs g c =
    let s = c.args.self.now in
    asks_as (jobs_over s c.args.job (omega arith)) (due_over s c.args.job (omega arith)) c.dismiss.ensures

pub returns : goal.returns
returns g c =
    let s = c.args.self.now in
    let job = c.args.job in
    let events = due_next s job (omega arith) in
    let own = rw c.entered.ensures.block at c.entered.ensures.own in
    rw c.entered.ensures.block (record {
      asks = (
        rw (drop_more s.jobs job no_job (omega arith)) (wait_asked_in s.board.config 1 (job ∷ []) _ _),
        record { numbers = omega arith; blocks = tt; may = own },
        omega arith,
      );
    })
