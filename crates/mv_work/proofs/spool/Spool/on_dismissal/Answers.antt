use Rattle.std.proofs.Common.{arith}
use Rattle.std.proofs.lemmas.Result.{err_from_is_err_and}
use Rattle.mv_work.proofs.Runs.{leads_all, leads_on, ran_astray}
use Rattle.mv_work.proofs.Waits.{asks_come, comes_astray, rests_ran}
use Rattle.mv_work.proofs.spool.Spool.on_dismissal.Goals as goal

pub returns-in_err-hand_over : goal.returns-in_err-hand_over
returns-in_err-hand_over g c =
    let p = err_from_is_err_and c.from_residual.result c.from_residual.ensures.1 in
    rw p.1 (comes_astray (ran_astray c.in_err-hand_over.ensures.ran _))

pub returns : goal.returns
returns g c =
    let ran = c.in_ok-hand_over.ensures.ran in
    asks_come c.dismiss.ensures (leads_on _ (leads_all _ c.args.task.now) ran)
    (rests_ran 2 ran c.in_ok-hand_over.ensures.few c.requires.task (omega arith))
