use Rattle.std.proofs.Common.{◌+◌, ◌∷◌, drop, sym, ap, ◌∙◌, arith}
use Rattle.std.proofs.lemmas.List.{drop_more}
use Rattle.std.proofs.lemmas.List.Sums.{sum_by-cons}
use Rattle.mv_work.specs.Initiating.{step_marks, steps_marks}
use Rattle.mv_work.proofs.initiator.marks_of.Goals as goal

pub loop-k-preserved : goal.loop-k-preserved
loop-k-preserved c =
    let steps = c.args.steps.now in
    let k = c.loop-k.k in
    let next = c.index-steps-k.result in
    let marks = ap steps_marks (drop_more steps k next c.loop-k-test.true ∙ ap (λ s. s ∷ drop (k + 1) steps) (sym c.index-steps-k.is))
    ∙ sum_by-cons step_marks next (drop (k + 1) steps) in
    let few = c.loop-k.invariant.few in
    let is = c.marks_of_step-marks.ensures.marks in record { sum = omega arith; few = omega arith }
