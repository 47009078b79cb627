use Rattle.std.proofs.Common.{refl, ap, ◌∙◌}
use Rattle.std.proofs.lemmas.Result.{err_from_is_err_and}
use Rattle.mv_element.specs.declared.element.Token.{Token}
use Rattle.mv_work.proofs.Meeting.{met}
use Rattle.mv_work.proofs.Runs.{served_few}
use Rattle.mv_polledspool.proofs.meeting.await_release.Goals as goal

pub returns-in_ok-paused-in-Ready-clause-turn : goal.returns-in_ok-paused-in-Ready-clause-turn
returns-in_ok-paused-in-Ready-clause-turn g c token t does =
    let same = c.poll.ensures.call ∙ does.0 in
    let paused = rw c.in_ok-paused-in-Ready.was at c.in-Ready.ensures.turn t does.1 in
    let served = rw same at paused.served in
    ((paused.next ∙ ap (λ (tok : Token). tok.element) same, paused.low.1), met _ served refl, served_few served)

pub returns-in_err-paused-in-Ready-clause-turn : goal.returns-in_err-paused-in-Ready-clause-turn
returns-in_err-paused-in-Ready-clause-turn g c token t does =
    let paused = rw c.in_err-paused-in-Ready.was at c.in-Ready.ensures.turn t does.1 in
    let p = err_from_is_err_and c.from_residual.result c.from_residual.ensures.1 in
    rw p.1 (met _ (rw (c.poll.ensures.call ∙ does.0) at paused.served) refl)
