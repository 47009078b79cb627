use Rattle.std.proofs.Common.{Ok, subst}
use Rattle.mv_wait.specs.Prelude.mode.{Exclusive}
use Rattle.mv_latchset.specs.Obtaining.{IsOfLatch}
use Rattle.mv_ordered.specs.Held.{held}
use Rattle.mv_guarded.proofs.Holding.{HasTaken, obtain_takes}
use Rattle.mv_dining.proofs.Calls.{obtain_dines}
use Rattle.mv_dining.proofs.dining.take_fork.Goals as goal

pub returns-in_default-clause-ready : goal.returns-in_default-clause-ready
returns-in_default-clause-ready g c =
    obtain_dines c.args.station.now _ _ _ _ c.args.task.now c.obtain.new.task c.obtain.ensures.served c.requires.above c.requires.ready

pub returns-in_default-clause-has : goal.returns-in_default-clause-has
returns-in_default-clause-has g c =
    let t = c.args.task.now in
    let u = c.obtain.new.task in
    subst (HasTaken c.args.fork (held t.log) (held u.log)) c.in_default.is
    (obtain_takes c.args.station.now.config c.args.fork _ _ Exclusive c.obtain.result t u c.obtain.ensures.served c.requires.above)

pub returns-clause-ready : goal.returns-clause-ready
returns-clause-ready g c =
    obtain_dines c.args.station.now _ _ _ _ c.args.task.now c.obtain.new.task c.obtain.ensures.served c.requires.above c.requires.ready

pub returns-clause-token : goal.returns-clause-token
returns-clause-token g c = subst (IsOfLatch c.args.fork) c.in-Granted.is c.in-Ok.ensures.latch

pub returns-clause-has : goal.returns-clause-has
returns-clause-has g c =
    let fork = c.args.fork in
    let t = c.args.task.now in
    let u = c.obtain.new.task in
    let has = obtain_takes c.args.station.now.config fork _ _ Exclusive c.obtain.result t u c.obtain.ensures.served c.requires.above in
    let answered = subst (HasTaken fork (held t.log) (held u.log)) c.in-Ok.is has in
    subst (λ got. HasTaken fork (held t.log) (held u.log) (Ok got)) c.in-Granted.is answered
