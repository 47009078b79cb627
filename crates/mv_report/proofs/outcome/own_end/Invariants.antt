use Rattle.std.proofs.Common.{◌≡◌, drop}
use Rattle.mv_report.specs.Outcome.{own_end}
use Rattle.mv_report.proofs.outcome.own_end.Given as goal

-- the answer lies in the steps that are left
abbrev pub invariant-loop-step : goal.invariant-loop-step
invariant-loop-step l = own_end (drop l.step-index l.steps) ≡ own_end l.steps
