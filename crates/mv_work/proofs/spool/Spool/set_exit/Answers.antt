use Rattle.std.proofs.Common.{◌≡◌, ℕ, List, ◌+◌, ◌*◌, ◌-◌, length, refl, ap, ◌∙◌, arith}
use Rattle.std.proofs.lemmas.List.FromFn.{length-map-range_with_len}
use Rattle.std.proofs.lemmas.Result.{err_from_is_err_and}
use Rattle.mv_plan.specs.SpoolSetup.{idle, scheduler}
use Rattle.mv_work.specs.declared.need.Blocks.{Blocks}
use Rattle.mv_work.specs.declared.need.Need.TheVariants as need
use Rattle.mv_work.specs.declared.next.Next.TheVariants as next
use Rattle.mv_work.specs.declared.stage.SchedulerStage.TheVariants as stage
use Rattle.mv_work.specs.Needs.{IsWaitFor}
use Rattle.mv_work.specs.Scheduling.{SchedulerAsks, first_idle, idles, scheduler_due, then_jobs}
use Rattle.mv_work.specs.Spool.{SpoolFace}
use Rattle.mv_work.proofs.Calls.{blocks_asked_in, blocks_fit}
use Rattle.mv_work.proofs.Dispatching.{exit_first}
use Rattle.mv_work.proofs.Ranges.{idle_exist}
use Rattle.mv_work.proofs.Runs.{leads_all, leads_on, ran_last, served_as}
use Rattle.mv_work.proofs.Spools.{block_there}
use Rattle.mv_work.proofs.Waits.{asks_come, comes_as, comes_astray, rests_then}
use Rattle.mv_work.proofs.spool.Spool.set_exit.Goals as goal

pub returns-in_err-extend : goal.returns-in_err-extend
returns-in_err-extend g c =
    let on = ap (λ (s : SpoolFace). s.board) c.self.view_is in
    let p = err_from_is_err_and c.from_residual.result c.from_residual.ensures.1 in
    rw p.1 (comes_as (exit_first c.args.self.now c.args.job c.args.skipped)
    (comes_astray (ran_last (served_as (rw (on, c.done-done.ensures.block) at c.in_err-extend.ensures.served)) _ refl)))

pub returns : goal.returns
returns g c =
    let s = c.args.self.now in
    let j = c.args.job in
    let n = length s.jobs in
    let i = s.initiators in
    let on = ap (λ (s : SpoolFace). s.board) c.self.view_is in
    let same : c.self.inside.initiators ≡ i = ap (λ (s : SpoolFace). s.initiators) c.self.view_is in
    let blocks = rw (c.jobs.ensures.jobs, same) at c.idle_blocks.ensures in
    let served = rw on at c.in_ok-extend.ensures.served in
    let spool = c.jobs.ensures.spool in
    let few = spool.initiators in
    let last = block_there spool (4 * n + i - 1) (omega arith) in
    let wanted : Blocks = record { count = 1; ecbs = c.idle_blocks.result } in
    let is : IsWaitFor 1 (idles s) wanted = record { count = refl; blocks = blocks } in
    let all = length-map-range_with_len (idle n) 0 i in
    let long : length c.idle_blocks.result.items ≡ i = ap (λ (es : List ℕ). length es) blocks ∙ all in
    let asks : SchedulerAsks s (then_jobs s j (first_idle s j c.args.skipped)) (2 * i + scheduler_due s (stage.Idle j c.args.skipped))
    (next.Wait (stage.Idle j c.args.skipped) (need.Blocks wanted)) = record {
      asks = (
        blocks_asked_in s.board.config is _ _,
        record {
          numbers = omega arith;
          blocks = long;
          may = blocks_fit s.board.config is scheduler (omega arith) (idle_exist n (length s.board.config.owners) 0 i (omega arith));
        },
        omega arith,
      );
    } in
    comes_as (exit_first s j c.args.skipped)
    (asks_come asks (leads_on _ (leads_all _ c.args.task.now) (served_as (rw c.done-done.ensures.block at served)))
    (rests_then served c.requires.task (omega arith)))
