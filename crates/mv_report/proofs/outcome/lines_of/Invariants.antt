use Rattle.std.proofs.Common.{◌≡◌, take}
use Rattle.mv_report.specs.Outcome.{lines_of_steps}
use Rattle.mv_report.proofs.outcome.lines_of.Given as goal

abbrev pub invariant-loop-step : goal.invariant-loop-step
invariant-loop-step l = l.texts.items ≡ lines_of_steps (take l.step-index l.steps)
