use Rattle.std.proofs.Common.{sym, subst}
use Rattle.mv_latchset.specs.Polling.{IsObtainMade}
use Rattle.mv_latchset.proofs.Between.{obtaining_made, obtaining_look}
use Rattle.mv_latchset.proofs.obtaining.obtain.Goals as goal

pub returns-in-Over : goal.returns-in-Over
returns-in-Over g c =
    let m = c.in-Over.ensures.begun in record { served = m.served; causes = m.causes; latch = m.there }

pub park_for-requires-clause-own : goal.park_for-requires-clause-own
park_for-requires-clause-own g c =
    let a = c.args in
    obtaining_made a.station.now.config a.latch a.requestor a.mode c.in-Waits.id a.task.now c.begin_obtain.new.task
    c.in-Waits.ensures.begun.1

pub end_obtain-requires-clause-waiting : goal.end_obtain-requires-clause-waiting
end_obtain-requires-clause-waiting g c =
    let a = c.args in (
      a.requestor,
      a.mode,
      a.task.now,
      obtaining_look a.station.now.config a.latch a.requestor a.mode c.in-Waits.id a.task.now c.begin_obtain.new.task
          c.in-Waits.ensures.begun.1 c.park_for.new.task c.park_for.ensures.went,
    )

pub returns-in-Waits : goal.returns-in-Waits
returns-in-Waits g c =
    let a = c.args in
    let s = a.station.now.config in
    let p = obtaining_look s a.latch a.requestor a.mode c.in-Waits.id a.task.now c.begin_obtain.new.task c.in-Waits.ensures.begun.1
    c.park_for.new.task c.park_for.ensures.went in
    let m = subst (λ f. IsObtainMade s a.latch a.requestor a.mode f a.task.now c.end_obtain.result c.end_obtain.new.task)
    (sym c.in-Waits.ensures.begun.0) (c.end_obtain.ensures a.requestor a.mode a.task.now p) in
    record { served = m.served; causes = m.causes; latch = m.there }
