use Rattle.std.proofs.Common.{length, arith}
use Rattle.std.proofs.lemmas.Result.{err_from_is_err_and}
use Rattle.mv_plan.specs.SpoolTasks.{code_of, hand_over}
use Rattle.mv_work.proofs.Calls.{found_is}
use Rattle.mv_work.proofs.Dispatching.{found_astray, found_done}
use Rattle.mv_work.proofs.Waits.{asks_come, comes_astray, comes_nowhere, rests_ran}
use Rattle.mv_work.proofs.spool.Spool.on_idle.Goals as goal

pub returns-in_err-found : goal.returns-in_err-found
returns-in_err-found g c =
    let s = c.args.self.now in
    let handed = hand_over s.board.config (length s.jobs) (code_of c.args.job c.args.skipped) in
    let p = err_from_is_err_and c.from_residual.result c.from_residual.ensures.1 in
    rw p.1 (comes_nowhere _ (found_is c.args.slots.now handed _ c.in_err-found.ensures.found) c.requires.task.rest)

pub returns-in_err-hand_over : goal.returns-in_err-hand_over
returns-in_err-hand_over g c =
    let s = c.args.self.now in
    let handed = hand_over s.board.config (length s.jobs) (code_of c.args.job c.args.skipped) in
    let ran = rw c.job_code-code.ensures.code at c.in_err-hand_over.ensures.ran in
    let p = err_from_is_err_and c.from_residual-in_err-hand_over.result c.from_residual-in_err-hand_over.ensures.1 in
    rw p.1 (comes_astray (found_astray c.args.slots.now handed _ _ c.in_ok-found.ensures.found ran))

pub returns : goal.returns
returns g c =
    let s = c.args.self.now in
    let handed = hand_over s.board.config (length s.jobs) (code_of c.args.job c.args.skipped) in
    let ran = rw c.job_code-code.ensures.code at c.in_ok-hand_over.ensures.ran in
    asks_come c.schedule.ensures (found_done c.args.slots.now handed _ _ c.in_ok-found.ensures.found ran)
    (rests_ran 2 ran c.in_ok-hand_over.ensures.few c.requires.task (omega arith))
