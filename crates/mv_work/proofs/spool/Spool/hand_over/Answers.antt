use Rattle.std.proofs.Common.{ap, refl}
use Rattle.std.proofs.lemmas.Result.{err_from_is_err_and}
use Rattle.mv_work.specs.Spool.{SpoolFace}
use Rattle.mv_work.proofs.Runs.{ran_followed, ran_last, served_as}
use Rattle.mv_work.proofs.spool.Spool.hand_over.Goals as goal

pub returns-in_err-clear-clause-ran : goal.returns-in_err-clear-clause-ran
returns-in_err-clear-clause-ran g c =
    let on = ap (λ (s : SpoolFace). s.board) c.self.view_is in
    let p = err_from_is_err_and c.from_residual.result c.from_residual.ensures.1 in
    rw p.1 (ran_last (served_as (rw (on, c.idle-idle.ensures.block) at c.in_err-clear.ensures.served)) _ refl)

pub returns-in_err-release-clause-ran : goal.returns-in_err-release-clause-ran
returns-in_err-release-clause-ran g c =
    let on = ap (λ (s : SpoolFace). s.board) c.self.view_is in
    let p = err_from_is_err_and c.from_residual-in_err-release.result c.from_residual-in_err-release.ensures.1 in
    rw p.1 (ran_followed (served_as (rw (on, c.idle-idle.ensures.block) at c.in_ok-clear.ensures.served)) _
    (ran_last (served_as (rw c.initiator.ensures at c.in_err-release.ensures.served)) _ refl))

pub returns-clause-ran : goal.returns-clause-ran
returns-clause-ran g c =
    let on = ap (λ (s : SpoolFace). s.board) c.self.view_is in
    ran_followed (served_as (rw (on, c.idle-idle.ensures.block) at c.in_ok-clear.ensures.served)) _
    (ran_last (served_as (rw c.initiator.ensures at c.in_ok-release.ensures.served)) _ refl)
