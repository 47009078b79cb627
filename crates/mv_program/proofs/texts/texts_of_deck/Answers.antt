-- What the run of a deck came to is what its report and its journal tell.
use Rattle.std.proofs.Common.{◌≡◌, ℕ, List, length, ap, sym, subst, ◌∙◌, arith}
use Rattle.std.specs.Prelude.{All}
use Rattle.std.proofs.lemmas.List.{length-map}
use Rattle.mv_deck.specs.Deck.{deck_data, job_data}
use Rattle.mv_config.specs.Setup.{Setup}
use Rattle.mv_entrytext.specs.Journal.{journal_text}
use Rattle.mv_report.specs.EndCode.{IsEndCode}
use Rattle.mv_report.specs.Outcome.{ends, lines, totals}
use Rattle.mv_report.specs.Report.{report_text}
use Rattle.mv_report.proofs.Lengths.{one_end_per_job, one_lines_per_job, eight_totals}
use Rattle.mv_report.proofs.SoundDecks.{sound_ends}
use Rattle.mv_program.proofs.Runs.{legal_so, journal_of_run}
use Rattle.mv_program.proofs.texts.texts_of_deck.Goals as goal

pub write_report-requires-clause-one_end_per_job : goal.write_report-requires-clause-one_end_per_job
write_report-requires-clause-one_end_per_job g c =
    omega (
      arith,
      ap length (c.deref.ensures.value ∙ c.in_ok-run.ensures.ends),
      one_end_per_job (deck_data c.args.deck.now),
      length-map c.args.deck.now.jobs.items job_data,
    )

pub write_report-requires-clause-one_lines_per_job : goal.write_report-requires-clause-one_lines_per_job
write_report-requires-clause-one_lines_per_job g c =
    omega (
      arith,
      ap length (c.deref-2.ensures.value ∙ c.in_ok-run.ensures.lines),
      one_lines_per_job (deck_data c.args.deck.now),
      length-map c.args.deck.now.jobs.items job_data,
    )

pub write_report-requires-clause-eight_volumes : goal.write_report-requires-clause-eight_volumes
write_report-requires-clause-eight_volumes g c =
    ap length (c.deref-3.ensures.value ∙ c.in_ok-run.ensures.volumes) ∙ eight_totals (deck_data c.args.deck.now)

pub write_report-requires-clause-end_codes : goal.write_report-requires-clause-end_codes
write_report-requires-clause-end_codes g c =
    subst (λ (xs : List ℕ). All IsEndCode xs) (sym (c.deref.ensures.value ∙ c.in_ok-run.ensures.ends))
    (sound_ends (deck_data c.args.deck.now) c.args.initiators c.requires.sound)

pub open-requires-clause-legal : goal.open-requires-clause-legal
open-requires-clause-legal g c =
    let run = c.in_ok-run.ensures in legal_so _ _ _ run.config run.run.follow.legal

pub returns-clause-report : goal.returns-clause-report
returns-clause-report g c =
    let deck = deck_data c.args.deck.now in
    let es : c.deref.result.now ≡ ends deck = c.deref.ensures.value ∙ c.in_ok-run.ensures.ends in
    let ls : c.deref-2.result.now ≡ lines deck = c.deref-2.ensures.value ∙ c.in_ok-run.ensures.lines in
    let vs : c.deref-3.result.now ≡ totals deck = c.deref-3.ensures.value ∙ c.in_ok-run.ensures.volumes in
    c.in_ok-report.ensures.text
    ∙ ap (λ xs. report_text deck xs c.deref-2.result.now c.deref-3.result.now) es
    ∙ ap (λ xs. report_text deck (ends deck) xs c.deref-3.result.now) ls
    ∙ ap (λ xs. report_text deck (ends deck) (lines deck) xs) vs

pub returns-clause-journal : goal.returns-clause-journal
returns-clause-journal g c =
    let deck = deck_data c.args.deck.now in
    let run = c.in_ok-run.ensures in
    let es = c.in_ok-run.run'.history.coming in
    journal_of_run deck c.args.initiators es c.in_ok-journal.journal c.requires.some c.requires.few c.requires.sound run.run
    (omega (arith, run.few)) run.places c.in_ok-journal.ensures.typed
    (c.in_ok-journal.ensures.text ∙ ap (λ (x : Setup). journal_text x es) run.config)
