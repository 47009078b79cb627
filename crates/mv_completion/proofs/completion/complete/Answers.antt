use Rattle.std.proofs.Common.{◌≡◌, length, sym, ap, ◌∙◌, subst, arith}
use Rattle.mv_wait.specs.Prelude.{Setup}
use Rattle.mv_attach.proofs.Back.{done_in}
use Rattle.mv_completion.specs.Told.{IsTold, HasDone}
use Rattle.mv_completion.proofs.Told.{told_code}
use Rattle.mv_completion.proofs.completion.complete.Goals as goal

pub returns-clause-told : goal.returns-clause-told
returns-clause-told g c =
    let b = c.in_ok-station.station in
    let es = c.close-closed.result.history.coming in
    let tasks = c.in_ok-tasks.tasks.items in
    let rooms = c.in_ok-tasks.told.items in
    let back = c.in_ok-tasks.ensures in
    let closed = c.close-closed.ensures in
    let size = ap length c.in_ok-rooms.ensures.items in
    let two : b.config.callers ≡ 2 = ap (λ (s : Setup). s.callers) (c.in_ok-station.ensures.config ∙ c.in_ok-config.ensures) in
    let done = done_in (HasDone c.args.code) b es tasks rooms _ back.order back.all closed.callers (omega arith) back.done in
    subst (λ n. IsTold c.args.code n es) (sym c.index.ensures)
    (told_code b.config es c.args.code rooms c.index.result.now closed.legal (omega arith) (λ k lt. done k c.index.result.now lt))
