use Rattle.std.proofs.Common.{[], Ok, sym, subst}
use Rattle.mv_wait.specs.Prelude.latch_op.{Obtain}
use Rattle.mv_wait.specs.Prelude.latch_form.{Waiting}
use Rattle.mv_wait.specs.Prelude.mode.{Exclusive}
use Rattle.mv_latchset.specs.Obtaining.{IsObtainedBy, IsOfLatch}
use Rattle.mv_guarded.specs.Guarded.{HoldsLatch}
use Rattle.mv_ordered.specs.Held.{held}
use Rattle.mv_guarded.proofs.Holding.{HasTaken, takes_only, holds_granted}
use Rattle.mv_permits.proofs.Calls.{obtain_quiet, still_pooled, same_permit, same_given}
use Rattle.mv_permits.proofs.permits.take_latch.Goals as goal

pub returns-in_default-clause-permit : goal.returns-in_default-clause-permit
returns-in_default-clause-permit g c =
    let t = c.args.task.now in
    let u = c.obtain.new.task in
    same_permit t u (obtain_quiet c.args.station.now _ _ _ t u c.obtain.ensures.served c.requires.ready)

pub returns-in_default-clause-ready : goal.returns-in_default-clause-ready
returns-in_default-clause-ready g c =
    let b = c.args.station.now in
    let t = c.args.task.now in
    let u = c.obtain.new.task in
    let served = c.obtain.ensures.served in
    still_pooled b _ _ _ t u served (obtain_quiet b _ _ _ t u served c.requires.ready) c.requires.ready

pub returns-clause-holds : goal.returns-clause-holds
returns-clause-holds g c =
    let t = c.args.task.now in
    let u = c.obtain.new.task in
    let by = subst (λ o. IsObtainedBy (Obtain 0 c.from-requestor.result Exclusive Waiting) 0 Waiting t o u) c.in-Granted.is
    c.in-Ok.ensures.causes.1 in
    subst (λ k. HoldsLatch 0 Exclusive k u.log) (sym c.obtain.ensures.served.same.number)
    (holds_granted 0 Exclusive c.from-requestor.result t u c.in-Granted.token by)

pub returns-clause-permit : goal.returns-clause-permit
returns-clause-permit g c =
    let t = c.args.task.now in
    let u = c.obtain.new.task in
    same_permit t u (obtain_quiet c.args.station.now _ _ _ t u c.obtain.ensures.served c.requires.ready)

pub returns-clause-ready : goal.returns-clause-ready
returns-clause-ready g c =
    let b = c.args.station.now in
    let t = c.args.task.now in
    let u = c.obtain.new.task in
    let served = c.obtain.ensures.served in
    still_pooled b _ _ _ t u served (obtain_quiet b _ _ _ t u served c.requires.ready) c.requires.ready

pub returns-in_default-clause-has : goal.returns-in_default-clause-has
returns-in_default-clause-has g c =
    let t = c.args.task.now in
    let u = c.obtain.new.task in
    let has = takes_only c.args.station.now.config 0 _ _ Exclusive c.obtain.result t u c.obtain.ensures.served c.requires.bare in
    subst (HasTaken 0 [] (held u.log)) c.in_default.is has

pub returns-clause-token : goal.returns-clause-token
returns-clause-token g c = subst (IsOfLatch 0) c.in-Granted.is c.in-Ok.ensures.latch

pub returns-clause-has : goal.returns-clause-has
returns-clause-has g c =
    let t = c.args.task.now in
    let u = c.obtain.new.task in
    let has = takes_only c.args.station.now.config 0 _ _ Exclusive c.obtain.result t u c.obtain.ensures.served c.requires.bare in
    subst (λ got. HasTaken 0 [] (held u.log) (Ok got)) c.in-Granted.is (subst (HasTaken 0 [] (held u.log)) c.in-Ok.is has)

pub returns-in_default-clause-given : goal.returns-in_default-clause-given
returns-in_default-clause-given g c =
    let t = c.args.task.now in
    let u = c.obtain.new.task in
    same_given t u (obtain_quiet c.args.station.now _ _ _ t u c.obtain.ensures.served c.requires.ready)

pub returns-clause-given : goal.returns-clause-given
returns-clause-given g c =
    let t = c.args.task.now in
    let u = c.obtain.new.task in
    same_given t u (obtain_quiet c.args.station.now _ _ _ t u c.obtain.ensures.served c.requires.ready)
