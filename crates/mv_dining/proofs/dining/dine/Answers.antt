use Rattle.std.proofs.Common.{◌≡◌, length, sym, ap, ◌∙◌, subst, arith}
use Rattle.mv_wait.specs.Prelude.{Setup}
use Rattle.mv_wait.proofs.Longer.{entries_fit}
use Rattle.mv_attach.proofs.Back.{done_in}
use Rattle.mv_ordered.specs.WaitChain.{HasNoLatchDeadlock}
use Rattle.mv_ordered.proofs.Calls.{each_keeps_discipline}
use Rattle.mv_ordered.proofs.Chains.{leads_to_one}
use Rattle.mv_guarded.specs.Guarded.{AllReleased}
use Rattle.mv_guarded.proofs.Exclusion.{one_holder_each}
use Rattle.mv_dining.specs.Dining.{HasDined, NoForkIsShared}
use Rattle.mv_dining.proofs.dining.dine.Goals as goal

pub returns-clause-apart : goal.returns-clause-apart
returns-clause-apart g c =
    let b = c.in_ok-station.station in
    let es = c.close-closed.result.history.coming in
    let back = c.in_ok-tasks.ensures in
    let closed = c.close-closed.ensures in
    let size = ap length c.in_ok-rooms.ensures.items in
    let four : b.config.callers ≡ 4 = ap (λ (s : Setup). s.callers) (c.in_ok-station.ensures.config ∙ c.in_ok-config.ensures) in
    let done = done_in (λ k log room. HasDined log) b es c.in_ok-tasks.tasks.items c.in_ok-tasks._rooms.items _ back.order back.all
    closed.callers (omega arith) back.done in
    subst (λ s. NoForkIsShared s es) (sym closed.config) (λ before later fork j k.
    one_holder_each b.config es before later fork j k closed.legal (λ m lt. (done m tt lt).alone))

pub returns-clause-no_deadlock : goal.returns-clause-no_deadlock
returns-clause-no_deadlock g c =
    let b = c.in_ok-station.station in
    let es = c.close-closed.result.history.coming in
    let back = c.in_ok-tasks.ensures in
    let closed = c.close-closed.ensures in
    let size = ap length c.in_ok-rooms.ensures.items in
    let four : b.config.callers ≡ 4 = ap (λ (s : Setup). s.callers) (c.in_ok-station.ensures.config ∙ c.in_ok-config.ensures) in
    let done = done_in (λ k log room. HasDined log) b es c.in_ok-tasks.tasks.items c.in_ok-tasks._rooms.items _ back.order back.all
    closed.callers (omega arith) back.done in
    subst (λ s. HasNoLatchDeadlock s es) (sym closed.config)
    (leads_to_one b.config es (each_keeps_discipline b.config es closed.legal (λ k lt. (done k tt lt).discipline)))

pub returns-clause-released : goal.returns-clause-released
returns-clause-released g c =
    let b = c.in_ok-station.station in
    let es = c.close-closed.result.history.coming in
    let back = c.in_ok-tasks.ensures in
    let closed = c.close-closed.ensures in
    let size = ap length c.in_ok-rooms.ensures.items in
    let four : b.config.callers ≡ 4 = ap (λ (s : Setup). s.callers) (c.in_ok-station.ensures.config ∙ c.in_ok-config.ensures) in
    let done = done_in (λ k log room. HasDined log) b es c.in_ok-tasks.tasks.items c.in_ok-tasks._rooms.items _ back.order back.all
    closed.callers (omega arith) back.done in subst (λ s. AllReleased s es) (sym closed.config) (λ k lt. (done k tt lt).none)

pub returns-clause-places : goal.returns-clause-places
returns-clause-places g c =
    entries_fit c.in_ok-station.station.config c.close-closed.result.history.coming c.close-closed.ensures.legal c.close-closed.ensures.few
