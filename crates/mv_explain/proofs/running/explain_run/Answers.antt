-- What was read, and what was written.
use Rattle.mv_explain.proofs.Runs.{run_read_before, run_unwritten, run_wrote}
use Rattle.mv_explain.proofs.running.explain_run.Goals as goal

-- an input that was not run
pub returns-in-Err-clause-written : goal.returns-in-Err-clause-written
returns-in-Err-clause-written g c =
    run_unwritten c.in-Err.status (g.D.Source.left c.args.input.now) (g.R.Sink.taken c.args.report.now) (g.K.Sink.taken c.args.journal.now)
    c.in-Err.ensures.unwritten

-- one that was
pub returns-clause-input : goal.returns-clause-input
returns-clause-input g c =
    let wrote = c.write_both-status in
    let texts = c.in-Ok.texts in
    run_read_before wrote.result (g.D.Source.left c.args.input.now) (g.D.Source.left c.read_and_run.new.input)
    (g.R.Sink.taken c.args.report.now) (g.R.Sink.taken wrote.new.report) (g.K.Sink.taken c.args.journal.now)
    (g.K.Sink.taken wrote.new.journal) texts.report.items texts.journal.items c.in-Ok.ensures.whole wrote.ensures.written

pub returns-clause-written : goal.returns-clause-written
returns-clause-written g c =
    let wrote = c.write_both-status in
    let texts = c.in-Ok.texts in
    run_wrote wrote.result (g.D.Source.left c.args.input.now) (g.R.Sink.taken c.args.report.now) (g.R.Sink.taken wrote.new.report)
    (g.K.Sink.taken c.args.journal.now) (g.K.Sink.taken wrote.new.journal) texts.report.items texts.journal.items
    c.in-Ok.ensures.explained wrote.ensures.written
