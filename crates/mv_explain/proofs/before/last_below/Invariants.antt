use Rattle.std.proofs.Common.{◌≡◌, ◌≤◌}
use Rattle.mv_explain.specs.Before.{last_below}
use Rattle.mv_explain.proofs.before.last_below.Given as goal

-- the events behind are not on the object
abbrev pub invariant-events : goal.invariant-events
invariant-events l = (last_below l.entries l.object l.end ≡ last_below l.entries l.object l.below) × (l.end ≤ l.below)

abbrev pub decreases-events : goal.decreases-events
decreases-events l = l.end
