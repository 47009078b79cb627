-- The report is the answers and what the tasks wait for; the journal is that of the run.
use Rattle.std.proofs.Common.{ℕ, List, ◌++◌, ap, ◌∙◌}
use Rattle.mv_entrytext.specs.Journal.{journal_text}
use Rattle.mv_script.specs.AnswerText.{answers_text}
use Rattle.mv_script.specs.Script.{script_data}
use Rattle.mv_explain.proofs.Runs.{run_texts}
use Rattle.mv_explain.proofs.running.texts_of_run.Goals as goal

pub returns : goal.returns
returns g c =
    let run = c.in_ok-run.run' in
    let answers = c.in_ok-report.ensures.text ∙ ap answers_text c.deref.ensures.value in
    let waits = c.deref-2.ensures.value ∙ c.in_ok-waits.ensures in
    run_texts (script_data c.args.script.now) run c.extend_from_slice.new.self.items c.in_ok-journal.journal.items c.in_ok-run.ensures.so_far
    c.in_ok-run.ensures.quiescent
    (c.in_ok-extend_from_slice.ensures.items ∙ (ap (λ (x : List ℕ). x ++ c.deref-2.result.now) answers
    ∙ ap (λ (x : List ℕ). answers_text run.answers.items ++ x) waits))
    (c.in_ok-journal.ensures.text ∙ ap (journal_text run.config) c.deref-3.ensures.value)
