use Rattle.std.proofs.Common.{◌≡◌, ◌-◌, [], ap, length, subst, arith}
use Rattle.std.specs.List.{range_with_len}
use Rattle.mv_calls.specs.Posts.{post}
use Rattle.mv_calls.specs.Program.{Done, finished, for_each}
use Rattle.mv_plan.specs.SpoolSetup.{entered, reader}
use Rattle.mv_plan.specs.SpoolTasks.{reading}
use Rattle.mv_work.specs.Ran.{Leads, Ran}
use Rattle.mv_work.specs.Spool.{SpoolFace}
use Rattle.mv_work.proofs.Ranges.{next_done, last_left}
use Rattle.mv_work.proofs.Runs.{leads_all, leads_done, served_few, served_ran, still_of}
use Rattle.mv_work.proofs.Spools.{fresh_rests}
use Rattle.mv_work.proofs.spool.Spool.read.Goals as goal

pub loop-job-preserved : goal.loop-job-preserved
loop-job-preserved g c =
    let s = c.args.self.now in
    let on = ap (λ (s : SpoolFace). s.board) c.self.view_is in
    let job = c.loop-job.job in
    let since = c.loop-job.invariant in
    let served = rw on at c.post.ensures.served in
    let cost = c.entered-entered.ensures.cost in
    let few = served_few served in
    let left = since.left in record {
      board = still_of s.board since.board served.same;
      quiet = served.made.rest;
      left = omega arith;
      leads = next_done (λ j. post s.board.config (entered j) 0) (finished []) job (length s.jobs) since.leads (omega arith)
          (served_ran (rw c.entered-entered.ensures.block at served));
    }

pub loop-job-init : goal.loop-job-init
loop-job-init g c =
    let s = c.args.self.now in
    let rests = fresh_rests c.jobs-job-end.ensures.spool reader (length s.jobs) c.args.task.now c.requires.fresh (omega arith) in
    let n = length s.jobs in
    let t = c.args.task.now in
    let leads : Leads (reading s.board.config n)
    (for_each (range_with_len 0 (n - 0)) (λ j. post s.board.config (entered j) 0) (finished [])) t t =
    subst (λ m. Leads (reading s.board.config n) (for_each (range_with_len 0 m) (λ j. post s.board.config (entered j) 0) (finished [])) t t)
    (let e : n ≡ n - 0 = omega arith in e) (leads_all _ t) in
    record { board = rests.board; quiet = rests.rest; left = (let left = rests.left in omega arith); leads = leads }

pub returns : goal.returns
returns g c =
    let s = c.args.self.now in
    let since = c.loop-job.invariant in
    let ran : Ran (reading s.board.config (length s.jobs)) (Done []) c.args.task.now c.loop-job.task =
    leads_done (last_left (λ j. post s.board.config (entered j) 0) (finished []) c.loop-job.job (length s.jobs)
    since.leads (omega arith)) since.quiet in (ran.went.same, (c.requires.fresh.number, ran))
