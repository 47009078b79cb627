use Rattle.std.proofs.Common.{[], ◌∷◌, length, refl, arith}
use Rattle.mv_plan.specs.SpoolSetup.{end_for_writer}
use Rattle.mv_work.proofs.Calls.{wait_asked}
use Rattle.mv_work.proofs.Ranges.{range_next, range_over}
use Rattle.mv_work.proofs.spool.Spool.write.Goals as goal

pub returns-then-job-jobs : goal.returns-then-job-jobs
returns-then-job-jobs g c ends fits =
    record { asks = λ kept. rw (range_over c.args.job (length c.args.self.now.jobs) (omega arith)) refl }

pub returns : goal.returns
returns g c ends fits =
    let s = c.args.self.now in
    let n = length s.jobs in
    let own = rw c.end_for_writer.ensures.block at c.end_for_writer.ensures.own in
    rw c.end_for_writer.ensures.block (record {
      asks = (
        rw (range_next c.args.job n (omega arith)) (wait_asked s.board.config 1 (end_for_writer n c.args.job ∷ []) _),
        record { number = omega arith; room = omega arith; block = tt; may = own },
        omega arith,
      );
    })
