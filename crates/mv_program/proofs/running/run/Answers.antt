-- What is written are texts that the command tells of what it read.
use Rattle.std.proofs.Common.{sym}
use Rattle.mv_program.proofs.Told.{run_is_told}
use Rattle.mv_program.proofs.running.run.Goals as goal

pub returns-in-Ok-texts_told-clause-told : goal.returns-in-Ok-texts_told-clause-told
returns-in-Ok-texts_told-clause-told g c =
    let made = c.in-Ok-texts_told in
    run_is_told c.args.command c.write_texts.result (g.D.Source.left c.args.input.now) (g.D.Source.left c.read_text.new.input)
    (g.R.Sink.taken c.args.report.now) (g.R.Sink.taken c.write_texts.new.report)
    (g.K.Sink.taken c.args.journal.now) (g.K.Sink.taken c.write_texts.new.journal)
    c.deref.result.now made.texts.report.items made.texts.journal
    c.requires.runs (λ reads. rw (sym c.deref.ensures.value) at (c.in-Ok.ensures.whole reads))
    made.ensures.told c.write_texts.ensures.written
