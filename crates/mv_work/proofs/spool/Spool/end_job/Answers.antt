use Rattle.std.proofs.Common.{◌≡◌, ◌-◌, sym, ap, ◌∙◌, subst, arith}
use Rattle.mv_work.specs.Initiating.{AreGiven, jobs_of_records}
use Rattle.mv_work.specs.Noting.{record_of}
use Rattle.mv_work.specs.Records.{Recorded}
use Rattle.mv_work.specs.Spool.{SpoolFace}
use Rattle.mv_work.proofs.Rounds.{jobs_more}
use Rattle.mv_work.proofs.Runs.{leads_all, leads_on, served_as}
use Rattle.mv_work.proofs.Waits.{comes_on, rests_then}
use Rattle.mv_work.proofs.spool.Spool.end_job.Goals as goal

pub begin_round-requires-clause-between : goal.begin_round-requires-clause-between
begin_round-requires-clause-between g c =
    let at = c.requires.at in
    let lt = at.round in
    let room = at.room in
    let me = c.args.me.now in
    let ended = c.end.ensures.ended in
    let left : c.end.new.self.room ≡ me.noted.room - 1 = ap (λ (r : Recorded). r.room) ended in
    rw c.after.ensures (record {
      index = at.index;
      round = omega arith;
      size = at.size;
      given = subst (λ jobs. AreGiven jobs me.given.items)
          (sym (ap (λ (r : Recorded). jobs_of_records r.jobs) ended
          ∙ jobs_more me.noted.jobs (record_of c.args.running.job c.args.end me.noted.notes))) at.given;
      none = ap (λ (r : Recorded). r.notes) ended;
      room = omega arith;
    })

pub begin_round-requires-clause-task : goal.begin_round-requires-clause-task
begin_round-requires-clause-task g c =
    let on = ap (λ (s : SpoolFace). s.board) c.self.view_is in
    let cost = c.done-done.ensures.cost in
    rw c.after.ensures (rests_then (rw on at c.end_of_job.ensures.served) c.requires.task (omega arith))

pub returns-clause-comes : goal.returns-clause-comes
returns-clause-comes g c =
    let on = ap (λ (s : SpoolFace). s.board) c.self.view_is in
    let noted = ap (λ (r : Recorded). r.jobs) c.end.ensures.ended in
    let served = rw (on, c.done-done.ensures.block, c.requestor.ensures) at c.end_of_job.ensures.served in
    rw noted (comes_on (leads_on _ (leads_all _ c.args.task.now) (served_as served)) (rw (c.after.ensures, noted) at c.begin_round.ensures))
