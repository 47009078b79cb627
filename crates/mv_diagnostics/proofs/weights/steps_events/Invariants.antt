-- The events counted, and those of the steps that are left.
use Rattle.std.proofs.Common.{◌≡◌, ◌+◌, drop, sum_by}
use Rattle.mv_deck.specs.Weight.{step_events}
use Rattle.mv_diagnostics.proofs.weights.steps_events.Given as goal

abbrev pub invariant-loop-step : goal.invariant-loop-step
invariant-loop-step l = l.events + sum_by step_events (drop l.step-index l.steps) ≡ sum_by step_events l.steps
