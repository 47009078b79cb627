-- The mode after the steps so far.
use Rattle.std.proofs.Common.{◌≡◌, None, fold, take}
use Rattle.mv_deck.specs.Held.{held_behind}
use Rattle.mv_diagnostics.proofs.held.held.Given as goal

abbrev pub invariant-loop-step : goal.invariant-loop-step
invariant-loop-step l = l.mode ≡ fold (held_behind l.latch) None (take l.step-index l.steps)
