use Rattle.mv_polled.proofs.Wakers.{rung_may_poll}
use Rattle.mv_polled.proofs.wait_future.WaitFuture.ring.Goals as goal

pub returns-clause-again : goal.returns-clause-again
returns-clause-again g c =
    rung_may_poll c.args.self.now.station.now c.args.self.now.task.now c.args.self.now.call c.ring.new.self c.args.self.now.sources.now
    c.ring.ensures.same
