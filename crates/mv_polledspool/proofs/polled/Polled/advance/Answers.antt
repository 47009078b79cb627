use Rattle.std.proofs.Common.{sym, subst}
use Rattle.mv_polledspool.specs.declared.polled.Polled.{Polled}
use Rattle.mv_polledspool.specs.Polled.{IsPolled, Stands}
use Rattle.mv_polledspool.proofs.Polling.{stands_next, waits}
use Rattle.mv_wait.proofs.Runs.{same_then}
use Rattle.mv_work.specs.Works.{WasTold}
use Rattle.mv_work.proofs.Runs.{still_of}
use Rattle.mv_polledspool.proofs.polled.Polled.advance.Given as bound
use Rattle.mv_polledspool.proofs.polled.Polled.advance.Goals as goal
use Rattle.mv_polledspool.proofs.polled.Polled.advance.Goals.{In-Ok-Ready}

pub poll-requires-clause-task : goal.poll-requires-clause-task
poll-requires-clause-task g c =
    let p = c.requires.polled in
    let at = waits c.args.spool.now c.requires.spool.config p.0 c.args.self.now p.2 c.requires.waits in
    rw c.station.ensures (still_of c.args.spool.now.board at.ready.task.board at.same)

pub poll-requires-clause-room : goal.poll-requires-clause-room
poll-requires-clause-room g c = c.requires.polled.2.room

pub poll-requires-clause-meeting : goal.poll-requires-clause-meeting
poll-requires-clause-meeting g c =
    let p = c.requires.polled in
    let at = waits c.args.spool.now c.requires.spool.config p.0 c.args.self.now p.2 c.requires.waits in
    rw c.station.ensures (at.need, at.began, at.meeting)

pub returns-in-Ok-Pending : goal.returns-in-Ok-Pending
returns-in-Ok-Pending g c = record {
  polled = λ k lt old.
      let s = c.args.spool.now in
      let was = c.args.self.now in
      let u = c.poll.new.task in
      let p : Polled = record was { task = u; meeting = c.poll.new.self } in
      let at = waits s c.requires.spool.config k was old c.requires.waits in
      let turn = rw c.station.ensures at c.in-Ok-Pending.ensures.turn in
      record {
        new = old.new;
        fresh = old.fresh;
        room = c.poll.ensures.room;
        stands = subst (Stands s k old.new p) (sym c.requires.waits) (
          at.need,
          at.began,
          at.come,
          same_then at.began was.task u at.same c.poll.ensures.same,
          rw c.in-Ok-Pending.field-0-is at (turn at.need at.began at.meeting),
        );
      };
}

pub returns-in-Err : goal.returns-in-Err
returns-in-Err g c = record {
  polled = λ k lt old.
      let at = waits c.args.spool.now c.requires.spool.config k c.args.self.now old c.requires.waits in
      let turn = rw c.station.ensures at c.in-Err.ensures.turn in
      let met = turn at.need at.began at.meeting in
      record { new = old.new; fresh = old.fresh; room = c.poll.ensures.room; stands = at.ready.lost c.poll.new.task met };
}

-- the task was told an answer
told : (g : bound.Over) (c : In-Ok-Ready g) (k : _) (is : IsPolled c.args.spool.now k c.args.self.now)
    → WasTold c.args.spool.now c.args.self.now.work is.new c.in-Ok-Ready.got c.poll.new.task
told g c k is =
    let at = waits c.args.spool.now c.requires.spool.config k c.args.self.now is c.requires.waits in
    let turn = rw c.station.ensures at c.in-Ok-Ready.ensures.turn in
    let met = rw c.in-Ok-Ready.field-0-is at (turn at.need at.began at.meeting) in
    at.ready.told c.in-Ok-Ready.got c.poll.new.task met.0 met.1 met.2

pub go_on-next-requires : goal.go_on-next-requires
go_on-next-requires g c =
    let p = c.requires.polled in record { told = (p.2.new, told g (goal.at.go_on-next-requires g c).In-Ok-Ready p.0 p.2) }

pub returns-in-Ok-Ready : goal.returns-in-Ok-Ready
returns-in-Ok-Ready g c = record {
  polled = λ k lt old. record {
    new = old.new;
    fresh = old.fresh;
    room = c.take_up.ensures.room;
    stands = stands_next c.args.spool.now c.requires.spool.config k old.new c.take_up.new.self c.go_on-next.result
        c.take_up.ensures.same (c.go_on-next.ensures old.new (told g (goal.at.returns-in-Ok-Ready g c).In-Ok-Ready k old))
        c.take_up.ensures.taken;
  };
}
