use Rattle.std.proofs.Common.{◌∙◌, refl}
use Rattle.std.proofs.lemmas.Result.{err_from_is_err_and}
use Rattle.mv_work.proofs.Meeting.{met}
use Rattle.mv_work.proofs.Runs.{served_few}
use Rattle.mv_polledspool.proofs.meeting.await_grant.Goals as goal

pub returns-in-Granted-clause-turn : goal.returns-in-Granted-clause-turn
returns-in-Granted-clause-turn g c latch requestor mode t does =
    let call = c.poll.ensures.call in
    let got = rw (c.in_ok-token-in-Ready.was, c.in-Granted.is) at c.in-Ready.ensures.turn t does.3 in
    let served = rw (call.0 ∙ does.0, call.1 ∙ does.1, call.2 ∙ does.2) at got.served in
    (got.latch ∙ call.0 ∙ does.0, met _ served refl, served_few served)

pub returns-in-Pending-2-clause-turn : goal.returns-in-Pending-2-clause-turn
returns-in-Pending-2-clause-turn g c latch requestor mode t does =
    let call = c.poll.ensures.call in
    let got = rw (c.in_ok-token-in-Ready.was, c.in-Pending-2.is) at c.in-Ready.ensures.turn t does.3 in
    met _ (rw (call.0 ∙ does.0, call.1 ∙ does.1, call.2 ∙ does.2) at got.served) refl

pub returns-in_err-token-in-Ready-clause-turn : goal.returns-in_err-token-in-Ready-clause-turn
returns-in_err-token-in-Ready-clause-turn g c latch requestor mode t does =
    let call = c.poll.ensures.call in
    let got = rw c.in_err-token-in-Ready.was at c.in-Ready.ensures.turn t does.3 in
    let p = err_from_is_err_and c.from_residual.result c.from_residual.ensures.1 in
    rw p.1 (met _ (rw (call.0 ∙ does.0, call.1 ∙ does.1, call.2 ∙ does.2) at got.served) refl)
