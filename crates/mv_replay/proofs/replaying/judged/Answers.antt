-- What the input asks for, by what was read, and what was written of the report.
use Rattle.std.proofs.Common.{rules}
use Rattle.mv_io.specs.Fault.{Rose}
use Rattle.mv_replay.specs.Course.{report_text}
use Rattle.mv_replay.specs.Outcome.{reports_of}
use Rattle.mv_replay.proofs.Endings.{owed_unread, owed_written}
use Rattle.mv_replay.proofs.Reported.{is_report, reported, read_before}
use Rattle.mv_replay.proofs.replaying.judged.Goals as goal

-- an input that was not taken
pub returns-in-Err-clause-owed : goal.returns-in-Err-clause-owed
returns-in-Err-clause-owed g c =
    owed_unread c.in-Err.status (g.D.Source.left c.args.input.now) (g.D.Source.left c.read_legal.new.input) _
    (Rose (g.R.Sink.faults c.args.report.now) (g.R.Sink.faults c.args.report.now)) c.in-Err.ensures.input (search rules)
    c.in-Err.ensures.unreported

-- one that was, and of whose report so much was written
pub returns-in-Ok-clause-input : goal.returns-in-Ok-clause-input
returns-in-Ok-clause-input g c =
    let wrote = c.write_report in
    read_before wrote.result (g.D.Source.left c.args.input.now) (g.D.Source.left c.read_legal.new.input)
    (g.R.Sink.taken c.args.report.now) (g.R.Sink.taken wrote.new.report) (report_text c.args.command c.in-Ok.legal)
    c.in-Ok.ensures.whole wrote.ensures.written

pub returns-in-Ok-clause-owed : goal.returns-in-Ok-clause-owed
returns-in-Ok-clause-owed g c =
    let wrote = c.write_report in
    owed_written wrote.result (g.D.Source.left c.args.input.now) (g.D.Source.left c.read_legal.new.input)
    (g.R.Sink.taken c.args.report.now) (g.R.Sink.taken wrote.new.report) (report_text c.args.command c.in-Ok.legal) _ _
    c.in-Ok.ensures.whole wrote.ensures.written wrote.ensures.report_failed

pub returns-in-Ok-clause-report : goal.returns-in-Ok-clause-report
returns-in-Ok-clause-report g c =
    let wrote = c.write_report in
    reported (reports_of c.args.command) wrote.result (g.D.Source.left c.args.input.now) (g.R.Sink.taken c.args.report.now)
    (g.R.Sink.taken wrote.new.report) c.in-Ok.legal.text.items (report_text c.args.command c.in-Ok.legal) c.in-Ok.ensures.text
    (is_report c.args.command c.in-Ok.legal c.in-Ok.ensures.judged) wrote.ensures.written
