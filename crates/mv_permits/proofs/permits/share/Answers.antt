use Rattle.std.proofs.Common.{◌≡◌, length, sym, ap, ◌∙◌, subst, arith}
use Rattle.mv_wait.specs.Prelude.{Setup}
use Rattle.mv_wait.proofs.Longer.{entries_fit}
use Rattle.mv_attach.proofs.Back.{done_in}
use Rattle.mv_ordered.specs.WaitChain.{HasNoLatchDeadlock}
use Rattle.mv_ordered.proofs.Calls.{each_keeps_discipline}
use Rattle.mv_ordered.proofs.Chains.{leads_to_one}
use Rattle.mv_guarded.specs.Guarded.{AllReleased}
use Rattle.mv_permits.specs.Permits.{HasDone, IsCounted}
use Rattle.mv_permits.proofs.Bounded.{bounded, counted}
use Rattle.mv_permits.proofs.permits.share.Goals as goal

pub returns-clause-bounded : goal.returns-clause-bounded
returns-clause-bounded g c =
    let b = c.in_ok-station.station in
    let es = c.close-closed.result.history.coming in
    let back = c.in_ok-tasks.ensures in
    let closed = c.close-closed.ensures in
    let size = ap length c.in_ok-rooms.ensures.items in
    let four : b.config.callers ≡ 4 = ap (λ (s : Setup). s.callers) (c.in_ok-station.ensures.config ∙ c.in_ok-config.ensures) in
    let done = done_in HasDone b es c.in_ok-tasks.tasks.items c.in_ok-tasks.shifts.items _ back.order back.all closed.callers
    (omega arith) back.done in
    bounded b.config es closed.legal four (λ k lt. (done k 0 lt).allowed)

pub returns-clause-counted : goal.returns-clause-counted
returns-clause-counted g c =
    let b = c.in_ok-station.station in
    let es = c.close-closed.result.history.coming in
    let back = c.in_ok-tasks.ensures in
    let closed = c.close-closed.ensures in
    let size = ap length c.in_ok-rooms.ensures.items in
    let four : b.config.callers ≡ 4 = ap (λ (s : Setup). s.callers) (c.in_ok-station.ensures.config ∙ c.in_ok-config.ensures) in
    let done = done_in HasDone b es c.in_ok-tasks.tasks.items c.in_ok-tasks.shifts.items _ back.order back.all closed.callers
    (omega arith) back.done in
    subst (λ s. IsCounted s es) (sym closed.config) (counted b.config es closed.legal four (λ k lt. (done k 0 lt).allowed))

pub returns-clause-no_deadlock : goal.returns-clause-no_deadlock
returns-clause-no_deadlock g c =
    let b = c.in_ok-station.station in
    let es = c.close-closed.result.history.coming in
    let back = c.in_ok-tasks.ensures in
    let closed = c.close-closed.ensures in
    let size = ap length c.in_ok-rooms.ensures.items in
    let four : b.config.callers ≡ 4 = ap (λ (s : Setup). s.callers) (c.in_ok-station.ensures.config ∙ c.in_ok-config.ensures) in
    let done = done_in HasDone b es c.in_ok-tasks.tasks.items c.in_ok-tasks.shifts.items _ back.order back.all closed.callers
    (omega arith) back.done in
    subst (λ s. HasNoLatchDeadlock s es) (sym closed.config)
    (leads_to_one b.config es (each_keeps_discipline b.config es closed.legal (λ k lt. (done k 0 lt).discipline)))

pub returns-clause-worked : goal.returns-clause-worked
returns-clause-worked g c =
    let b = c.in_ok-station.station in
    let es = c.close-closed.result.history.coming in
    let back = c.in_ok-tasks.ensures in
    let closed = c.close-closed.ensures in
    let size = ap length c.in_ok-rooms.ensures.items in
    let four : b.config.callers ≡ 4 = ap (λ (s : Setup). s.callers) (c.in_ok-station.ensures.config ∙ c.in_ok-config.ensures) in
    let done = done_in HasDone b es c.in_ok-tasks.tasks.items c.in_ok-tasks.shifts.items _ back.order back.all closed.callers
    (omega arith) back.done in
    λ k lt. (done k 0 (omega arith)).worked lt

pub returns-clause-released : goal.returns-clause-released
returns-clause-released g c =
    let b = c.in_ok-station.station in
    let es = c.close-closed.result.history.coming in
    let back = c.in_ok-tasks.ensures in
    let closed = c.close-closed.ensures in
    let size = ap length c.in_ok-rooms.ensures.items in
    let four : b.config.callers ≡ 4 = ap (λ (s : Setup). s.callers) (c.in_ok-station.ensures.config ∙ c.in_ok-config.ensures) in
    let done = done_in HasDone b es c.in_ok-tasks.tasks.items c.in_ok-tasks.shifts.items _ back.order back.all closed.callers
    (omega arith) back.done in
    subst (λ s. AllReleased s es) (sym closed.config) (λ k lt. (done k 0 lt).bare)

pub returns-clause-places : goal.returns-clause-places
returns-clause-places g c =
    entries_fit c.in_ok-station.station.config c.close-closed.result.history.coming c.close-closed.ensures.legal c.close-closed.ensures.few
