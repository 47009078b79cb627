use Rattle.std.proofs.Common.{◌≡◌, ◌+◌, ◌-◌, suc, [], length, refl, subst, ap, arith}
use Rattle.std.proofs.lemmas.Result.{err_from_is_err_and}
use Rattle.mv_work.specs.Noting.{initiating_noted, rounds_noted}
use Rattle.mv_work.specs.Ran.{Leads}
use Rattle.mv_work.specs.Spool.{SpoolFace}
use Rattle.mv_work.proofs.Runs.{leads_all, leads_on, ran_last, served_as}
use Rattle.mv_work.proofs.Waits.{comes_astray, comes_on}
use Rattle.mv_work.proofs.spool.Spool.initiate.Goals as goal

pub returns-in_err-next : goal.returns-in_err-next
returns-in_err-next g c =
    let on = ap (λ (s : SpoolFace). s.board) c.self.view_is in
    let p = err_from_is_err_and c.from_residual.result c.from_residual.ensures.1 in
    rw p.1 (comes_astray (ran_last (served_as (rw on at c.in_err-next.ensures.served)) _ refl))

pub returns : goal.returns
returns g c =
    let s = c.args.self.now in
    let on = ap (λ (s : SpoolFace). s.board) c.self.view_is in
    let first : length s.jobs + 1 ≡ suc (length s.jobs - 0) = omega arith in
    rw c.requires.none (comes_on (subst (λ k. Leads (initiating_noted s.board.config s.jobs c.args.me.now.index)
    (rounds_noted s.board.config s.jobs c.args.me.now.index k [] c.in_ok-next.next) c.args.task.now c.allocate.new.task) first
    (leads_on _ (leads_all _ c.args.task.now) (served_as (rw on at c.in_ok-next.ensures.served))))
    (rw c.requires.none at c.begin_round.ensures))
