-- What the run of a script came to is what its answers and its journal tell.
use Rattle.std.proofs.Common.{ap, ◌∙◌, arith}
use Rattle.mv_config.specs.Setup.{Setup}
use Rattle.mv_entrytext.specs.Journal.{journal_text}
use Rattle.mv_script.specs.Script.{script_data}
use Rattle.mv_program.proofs.Runs.{legal_so, run_of_script}
use Rattle.mv_program.proofs.texts.texts_of_run.Goals as goal

pub open-requires-clause-legal : goal.open-requires-clause-legal
open-requires-clause-legal g c =
    let run = c.in_ok-run.ensures in legal_so _ _ _ run.config run.run.finish.follow.legal

pub returns : goal.returns
returns g c =
    let run = c.in_ok-run.ensures in
    let es = c.in_ok-run.run'.history.coming in
    run_of_script (script_data c.args.script.now) c.in_ok-run.run'.answers.items es c.in_ok-report.report.items
    c.in_ok-journal.journal run.valid run.run run.answers (omega (arith, run.few)) run.places
    c.in_ok-journal.ensures.typed c.in_ok-report.ensures.text c.in_ok-report.ensures.in_range run.events
    (c.in_ok-journal.ensures.text ∙ ap (λ (x : Setup). journal_text x es) run.config)
