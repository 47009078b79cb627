use Rattle.std.proofs.Common.{◌≡◌, [], length, sym, ap, ◌∙◌, subst, arith}
use Rattle.std.proofs.Math.Nat.{mod-eq_of_lt}
use Rattle.std.proofs.lemmas.List.{append-nil}
use Rattle.mv_wait.proofs.Splits.{length_filter}
use Rattle.mv_wait.specs.Prelude.{Setup, is_write}
use Rattle.mv_attach.proofs.Back.{done_in}
use Rattle.mv_counter.specs.Counter.{HasDone, IsCounted}
use Rattle.mv_counter.proofs.Counted.{is_counted}
use Rattle.mv_counter.proofs.counter.count.Goals.{After-close-closed}
use Rattle.mv_counter.proofs.counter.count.Goals as goal

-- each task has kept the rule, so the volume counts the additions
counted : (g : _) (c : After-close-closed g) → IsCounted c.in_ok-station.station.config c.close-closed.result.history.coming
counted g c =
    let b = c.in_ok-station.station in
    let es = c.close-closed.result.history.coming in
    let back = c.in_ok-tasks.ensures in
    let closed = c.close-closed.ensures in
    let size = ap length c.in_ok-rooms.ensures.items in
    let four : b.config.callers ≡ 4 = ap (λ (s : Setup). s.callers) (c.in_ok-station.ensures.config ∙ c.in_ok-config.ensures) in
    let done = done_in (λ k log room. HasDone k log) b es c.in_ok-tasks.tasks.items c.in_ok-tasks._rooms.items _ back.order back.all
    closed.callers (omega arith) back.done in
    is_counted b.config es closed.legal (λ k lt. (done k tt lt).allowed)

pub returns-clause-counted : goal.returns-clause-counted
returns-clause-counted g c =
    let a = (goal.at.returns-clause-counted g c).After-close-closed in
    subst (λ s. IsCounted s a.close-closed.result.history.coming) (sym a.close-closed.ensures.config) (counted g a)

pub returns-clause-number : goal.returns-clause-number
returns-clause-number g c =
    let a = (goal.at.returns-clause-number g c).After-close-closed in
    let es = a.close-closed.result.history.coming in
    let closed = a.close-closed.ensures in
    let few = closed.few in
    let one : a.in_ok-station.station.config.volumes ≡ 1 =
    ap (λ (s : Setup). s.volumes) (a.in_ok-station.ensures.config ∙ a.in_ok-config.ensures) in
    let least = length_filter (λ e. is_write e.op) es in
    closed.volumes 0 (omega arith) ∙ counted g a es [] (sym (append-nil es)) ∙ mod-eq_of_lt (omega arith)
