-- The events counted, and those of the steps that are left.
use Rattle.mv_plan.proofs.Words.{◌≡◌, ◌+◌, step_events}
use Rattle.std.proofs.Common.{drop, sum_by}
use Rattle.mv_plan.proofs.spool_setup.steps_events.Given as goal

abbrev pub invariant-loop-step : goal.invariant-loop-step
invariant-loop-step l = l.events + sum_by step_events (drop l.step-index l.steps) ≡ sum_by step_events l.steps
