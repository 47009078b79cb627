-- What the run of a load came to is what its summary and its journal tell.
use Rattle.std.proofs.Common.{◌≡◌, ℕ, List, length, ap, sym, subst, ◌∙◌, arith}
use Rattle.std.specs.Prelude.{All}
use Rattle.mv_deck.specs.Deck.{JobData, deck_data}
use Rattle.mv_deck.specs.Load.{load_text}
use Rattle.mv_deck.specs.Sound.{IsSound}
use Rattle.mv_deck.proofs.LoadJobs.{count_of_jobs}
use Rattle.mv_deck.proofs.Loads.{no_fault, stated_jobs}
use Rattle.mv_deck.proofs.Sounds.{sound}
use Rattle.mv_config.specs.Setup.{Setup}
use Rattle.mv_entrytext.specs.Journal.{journal_text}
use Rattle.mv_report.specs.EndCode.{IsEndCode}
use Rattle.mv_report.specs.Outcome.{ends, totals}
use Rattle.mv_report.specs.Summary.{summary_text}
use Rattle.mv_report.proofs.Lengths.{one_end_per_job, eight_totals}
use Rattle.mv_report.proofs.SoundDecks.{sound_ends}
use Rattle.mv_program.specs.Texts.{IsJournalOfRun}
use Rattle.mv_program.proofs.Runs.{legal_so, journal_of_run}
use Rattle.mv_program.proofs.texts.texts_of_load.Goals as goal

-- the deck that was read can be run
pub run_of-requires-clause-sound : goal.run_of-requires-clause-sound
run_of-requires-clause-sound g c = λ κs live.
    subst (λ (d : List JobData). IsSound d c.args.initiators) (sym c.in_ok-deck.ensures.deck)
    (sound (load_text c.args.jobs) c.args.initiators
    (no_fault c.args.jobs c.args.initiators c.requires.jobs.0 c.requires.jobs.1 c.requires.initiators.1))

pub write_summary-requires-clause-one_end_per_job : goal.write_summary-requires-clause-one_end_per_job
write_summary-requires-clause-one_end_per_job g c =
    omega (
      arith,
      ap length (c.deref.ensures.value ∙ c.in_ok-run.ensures.ends),
      one_end_per_job (deck_data c.in_ok-deck.deck),
      ap length c.in_ok-deck.ensures.deck,
      ap length (stated_jobs c.args.jobs c.requires.jobs.0 c.requires.jobs.1),
      count_of_jobs c.args.jobs,
    )

pub write_summary-requires-clause-eight_volumes : goal.write_summary-requires-clause-eight_volumes
write_summary-requires-clause-eight_volumes g c =
    ap length (c.deref-2.ensures.value ∙ c.in_ok-run.ensures.volumes) ∙ eight_totals (deck_data c.in_ok-deck.deck)

pub write_summary-requires-clause-end_codes : goal.write_summary-requires-clause-end_codes
write_summary-requires-clause-end_codes g c =
    subst (λ (xs : List ℕ). All IsEndCode xs) (sym (c.deref.ensures.value ∙ c.in_ok-run.ensures.ends))
    (sound_ends (deck_data c.in_ok-deck.deck) c.args.initiators
    (subst (λ (d : List JobData). IsSound d c.args.initiators) (sym c.in_ok-deck.ensures.deck)
    (sound (load_text c.args.jobs) c.args.initiators
    (no_fault c.args.jobs c.args.initiators c.requires.jobs.0 c.requires.jobs.1 c.requires.initiators.1))))

pub open-requires-clause-legal : goal.open-requires-clause-legal
open-requires-clause-legal g c =
    let run = c.in_ok-run.ensures in legal_so _ _ _ run.config run.run.follow.legal

pub returns-clause-report : goal.returns-clause-report
returns-clause-report g c =
    let deck = deck_data c.in_ok-deck.deck in
    let es : c.deref.result.now ≡ ends deck = c.deref.ensures.value ∙ c.in_ok-run.ensures.ends in
    let vs : c.deref-2.result.now ≡ totals deck = c.deref-2.ensures.value ∙ c.in_ok-run.ensures.volumes in
    c.in_ok-report.ensures.text
    ∙ ap (λ xs. summary_text c.args.jobs c.args.initiators xs c.deref-2.result.now) es
    ∙ ap (λ xs. summary_text c.args.jobs c.args.initiators (ends deck) xs) vs
    ∙ ap (λ (d : List JobData). summary_text c.args.jobs c.args.initiators (ends d) (totals d))
    (c.in_ok-deck.ensures.deck ∙ stated_jobs c.args.jobs c.requires.jobs.0 c.requires.jobs.1)

pub returns-clause-run : goal.returns-clause-run
returns-clause-run g c =
    let deck = deck_data c.in_ok-deck.deck in
    let run = c.in_ok-run.ensures in
    let es = c.in_ok-run.run'.history.coming in
    let is_sound : IsSound deck c.args.initiators =
    subst (λ (d : List JobData). IsSound d c.args.initiators) (sym c.in_ok-deck.ensures.deck)
    (sound (load_text c.args.jobs) c.args.initiators
    (no_fault c.args.jobs c.args.initiators c.requires.jobs.0 c.requires.jobs.1 c.requires.initiators.1)) in
    subst (λ (d : List JobData). IsJournalOfRun d c.args.initiators c.in_ok-journal.journal)
    (c.in_ok-deck.ensures.deck ∙ stated_jobs c.args.jobs c.requires.jobs.0 c.requires.jobs.1)
    (journal_of_run deck c.args.initiators es c.in_ok-journal.journal c.requires.initiators.0 c.requires.initiators.1 is_sound run.run
    (omega (arith, run.few)) run.places c.in_ok-journal.ensures.typed
    (c.in_ok-journal.ensures.text ∙ ap (λ (x : Setup). journal_text x es) run.config))
