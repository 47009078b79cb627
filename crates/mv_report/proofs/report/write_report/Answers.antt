use Rattle.std.proofs.Common.{sym, arith}
use Rattle.mv_report.proofs.Jobs.{jobs_text-more}
use Rattle.mv_report.proofs.report.write_report.Goals as goal

pub loop-i-preserved : goal.loop-i-preserved
loop-i-preserved c =
    let more = jobs_text-more c.args.deck.now.jobs.items c.args.ends.now c.args.lines.now c.loop-i.i
    c.job-item.result c.index-lines-i.result (omega arith) (omega arith) (omega arith) (cc) c.index-lines-i.is in
    rw (c.in_ok-push_job.ensures, c.loop-i.invariant) (sym more)
