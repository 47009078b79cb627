-- What a command told and owes, a run by its words did and does.
use Rattle.std.proofs.Common.{Some, None, refl, sym, ap, ◌∙◌}
use Rattle.mv_io.specs.Fault.{Rose}
use Rattle.mv_replay.specs.Outcome.{reports_of}
use Rattle.mv_program.specs.declared.command.Command.TheVariants.{Journal}
use Rattle.mv_program.proofs.Owed.{owed_for}
use Rattle.mv_program.proofs.Told.{told_for, report_is_told}
use Rattle.mv_program.proofs.program.run_program.Goals as goal
use Rattle.mv_program.proofs.program.run_program.Goals.{in-None, in-Some}

pub returns-clause-told : goal.returns-clause-told
returns-clause-told g c =
    let made = c.match-command_of in
    let old = g.D.Source.left c.args.input.now in
    let report0 = g.R.Sink.taken c.args.report.now in
    let journal0 = g.K.Sink.taken c.args.journal.now in
    let report1 = g.R.Sink.taken made.report in
    let journal1 = g.K.Sink.taken made.journal in
    elim made.branch [
      | in-None w ↦
          told_for _ None made.status old report0 report1 journal0 journal1
          (sym c.command_of.ensures.command ∙ w.in-None.is) (ap g.R.Sink.taken w.report-is, ap g.K.Sink.taken w.journal-is)
      | in-Some w ↦
          told_for _ (Some w.in-Some.command) made.status old report0 report1 journal0 journal1
          (sym c.command_of.ensures.command ∙ w.in-Some.is)
          (rw (sym w.status-is) at (rw (sym w.report-is) at (rw (sym w.journal-is) at w.run-status.ensures.told)))
    ]

pub returns-clause-owed : goal.returns-clause-owed
returns-clause-owed g c =
    let made = c.match-command_of in
    let old = g.D.Source.left c.args.input.now in
    let new = g.D.Source.left made.input in
    let read = Rose (g.D.Source.faults c.args.input.now) (g.D.Source.faults made.input) in
    let report = Rose (g.R.Sink.faults c.args.report.now) (g.R.Sink.faults made.report) in
    let journal = Rose (g.K.Sink.faults c.args.journal.now) (g.K.Sink.faults made.journal) in
    elim made.branch [
      | in-None w ↦
          owed_for _ None made.status old new read report journal
          (sym c.command_of.ensures.command ∙ w.in-None.is) (ap g.D.Source.left w.input-is)
          (λ e. absurd cc) (λ e. absurd cc) (λ e. absurd cc)
      | in-Some w ↦
          let run = w.run-status in
          owed_for _ (Some w.in-Some.command) made.status old new read report journal
          (sym c.command_of.ensures.command ∙ w.in-Some.is)
          (rw (sym w.status-is) at (rw (sym w.input-is) at run.ensures.input))
          (rw (sym w.status-is) at (rw (sym w.input-is) at run.ensures.read_failed))
          (rw (sym w.status-is) at (rw (sym w.report-is) at run.ensures.report_failed))
          (rw (sym w.status-is) at (rw (sym w.journal-is) at run.ensures.journal_failed))
    ]

pub returns-in-Some-Journal-clause-told : goal.returns-in-Some-Journal-clause-told
returns-in-Some-Journal-clause-told g c =
    let input = g.D.Source.left c.args.input.now in
    let report0 = g.R.Sink.taken c.args.report.now in
    let report1 = g.R.Sink.taken c.judge.new.report in
    let journal = g.K.Sink.taken c.args.journal.now in
    told_for _ (Some (Journal c.in-Some-Journal.command)) c.judge.result input report0 report1 journal journal
    (sym c.command_of.ensures.command ∙ c.in-Some-Journal.is ∙ ap Some c.in-Some-Journal.field-0-is)
    (report_is_told (reports_of c.in-Some-Journal.command) c.judge.result input report0 report1 journal journal
    c.judge.ensures.report refl)

pub returns-in-Some-Journal-clause-owed : goal.returns-in-Some-Journal-clause-owed
returns-in-Some-Journal-clause-owed g c =
    let made = c.judge.new in
    owed_for _ (Some (Journal c.in-Some-Journal.command)) c.judge.result (g.D.Source.left c.args.input.now) (g.D.Source.left made.input)
    (Rose (g.D.Source.faults c.args.input.now) (g.D.Source.faults made.input))
    (Rose (g.R.Sink.faults c.args.report.now) (g.R.Sink.faults made.report))
    (Rose (g.K.Sink.faults c.args.journal.now) (g.K.Sink.faults c.args.journal.now))
    (sym c.command_of.ensures.command ∙ c.in-Some-Journal.is ∙ ap Some c.in-Some-Journal.field-0-is)
    c.judge.ensures.input c.judge.ensures.read_failed c.judge.ensures.report_failed (λ e. absurd (c.judge.ensures.journal e))
