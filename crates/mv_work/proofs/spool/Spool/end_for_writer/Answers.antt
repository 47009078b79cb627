use Rattle.std.proofs.Common.{length, arith}
use Rattle.mv_plan.specs.SpoolSetup.{end_for_writer, writer}
use Rattle.mv_plan.proofs.deck.Setup.{writer_part}
use Rattle.mv_work.proofs.Spools.{block_own}
use Rattle.mv_work.proofs.spool.Spool.end_for_writer.Goals as goal

pub returns-clause-own : goal.returns-clause-own
returns-clause-own g c =
    let s = c.args.self.now in
    let job = c.args.job in
    rw (c.end_for_writer.ensures, c.jobs.ensures.jobs)
    (block_own c.jobs.ensures.spool (writer s.initiators) (end_for_writer (length s.jobs) job) (omega arith)
    (writer_part (length s.jobs) s.initiators job (omega arith)) (λ j lt q. omega arith))
