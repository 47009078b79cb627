use Rattle.std.proofs.Common.{◌≡◌, ℕ, ◌+◌, ◌<◌, get_or, take}
use Rattle.mv_report.specs.Outcome.{added_by, held_of}
use Rattle.mv_report.proofs.outcome.add_counts.Given as goal

-- what the steps so far added to each volume
abbrev pub invariant-loop-step : goal.invariant-loop-step
invariant-loop-step l =
    (v : ℕ) → v < 8 → get_or l.volumes v 0 ≡ held_of (get_or l.initial.volumes v 0 + added_by v (take l.step-index l.steps))
