use Rattle.std.proofs.Common.{◌≡◌, ℕ, ◌<◌, [], ◌∷◌, ◌++◌, List, length, get_or, ap, ◌∙◌, arith}
use Rattle.std.proofs.lemmas.List.{length-map}
use Rattle.std.proofs.lemmas.Grind.{common_steps}
use Rattle.mv_deck.specs.Deck.{deck_data, job_data}
use Rattle.mv_report.specs.Outcome.{steps_done, held_of}
use Rattle.mv_report.proofs.Lengths.{one_end_per_job, length-steps_done}
use Rattle.mv_report.proofs.Steps.{steps_of_job, lines_more, added_more, added_by_all}
use Rattle.mv_report.proofs.Totals.{hold_totals}
use Rattle.mv_report.proofs.outcome.outcome_of.Goals as goal

pub index-requires : goal.index-requires
index-requires c =
    omega (
      arith,
      one_end_per_job (deck_data c.args.deck.now),
      length-map c.args.deck.now.jobs.items job_data,
      ap length c.in_ok-ends.ensures,
    )

pub loop-i-preserved : goal.loop-i-preserved
loop-i-preserved c =
    let deck = deck_data c.args.deck.now in
    let i = c.loop-i.i in
    let steps = c.steps_with-steps.result.now in
    let here : (i < length (steps_done deck)) × (get_or (steps_done deck) i [] ≡ steps) =
    steps_of_job c.args.deck.now.jobs.items c.in_ok-ends.ends.items i c.job-item.result c.index.result.now steps
    c.in_ok-ends.ensures (omega arith) (cc) (cc) (cc) in
    record {
      lines = c.in_ok-push.ensures.items ∙ ap (λ (t : List (List ℕ)). c.loop-i.lines.items ++ t ∷ []) c.in_ok-lines_of.ensures
          ∙ lines_more (steps_done deck) c.loop-i.lines.items i steps here.0 c.loop-i.invariant.lines here.1;
      eight = c.add_counts.array_long;
      volumes = λ v lt. c.add_counts.ensures v lt
          ∙ added_more v (steps_done deck) (get_or c.loop-i.volumes v 0) i steps here.0 (c.loop-i.invariant.volumes v lt) here.1;
    }

pub returns-clause-lines : goal.returns-clause-lines
returns-clause-lines c =
    grind (arith, common_steps, length-steps_done (deck_data c.args.deck.now), length-map c.args.deck.now.jobs.items job_data)

pub returns-clause-volumes : goal.returns-clause-volumes
returns-clause-volumes c =
    let deck = deck_data c.args.deck.now in
    hold_totals deck c.loop-i.volumes c.loop-i.invariant.eight (λ v lt. c.loop-i.invariant.volumes v lt
    ∙ ap held_of (added_by_all v (steps_done deck) c.loop-i.i
    (omega (arith, length-steps_done deck, length-map c.args.deck.now.jobs.items job_data))))
