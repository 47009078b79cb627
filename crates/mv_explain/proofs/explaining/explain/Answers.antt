-- What the input asks for, by what was read, and what was written.
use Rattle.std.proofs.Common.{ℕ, List, rules, subst, sym}
use Rattle.std.specs.Prelude.{IfSome}
use Rattle.mv_io.specs.Fault.{Rose}
use Rattle.mv_explain.specs.Explained.{IsExplained}
use Rattle.mv_explain.proofs.Endings.{owed_unread, owed_written, read_before, reported}
use Rattle.mv_explain.proofs.explaining.explain.Goals as goal

-- an input that was not explained
pub returns-in-Err-clause-owed : goal.returns-in-Err-clause-owed
returns-in-Err-clause-owed g c =
    owed_unread c.in-Err.status (g.D.Source.left c.args.input.now) (g.D.Source.left c.read_and_explain.new.input) _
    (Rose (g.R.Sink.faults c.args.report.now) (g.R.Sink.faults c.args.report.now)) c.in-Err.ensures.input (search rules)
    c.in-Err.ensures.unwritten

-- one that was, and so much was written
pub returns-clause-input : goal.returns-clause-input
returns-clause-input g c =
    let wrote = c.write_out-status in
    read_before wrote.result (g.D.Source.left c.args.input.now) (g.D.Source.left c.read_and_explain.new.input)
    (g.R.Sink.taken c.args.report.now) (g.R.Sink.taken wrote.new.report) c.deref.result.now c.in-Ok.ensures.whole wrote.ensures.written

pub returns-clause-owed : goal.returns-clause-owed
returns-clause-owed g c =
    let wrote = c.write_out-status in
    owed_written wrote.result (g.D.Source.left c.args.input.now) (g.D.Source.left c.read_and_explain.new.input)
    (g.R.Sink.taken c.args.report.now) (g.R.Sink.taken wrote.new.report) c.deref.result.now _ _
    c.in-Ok.ensures.whole wrote.ensures.written wrote.ensures.report_failed

pub returns-clause-report : goal.returns-clause-report
returns-clause-report g c =
    let wrote = c.write_out-status in
    let input = g.D.Source.left c.args.input.now in
    reported wrote.result input (g.R.Sink.taken c.args.report.now) (g.R.Sink.taken wrote.new.report) c.deref.result.now
    (subst (λ (said : List ℕ). IfSome input (λ bytes. IsExplained bytes said)) (sym c.deref.ensures.value) c.in-Ok.ensures.explained)
    wrote.ensures.written
