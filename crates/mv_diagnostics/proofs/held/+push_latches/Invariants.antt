use Rattle.std.proofs.Common.{◌-◌}
use Rattle.mv_diagnostics.proofs.held.+push_latches.Given as goal

abbrev pub decreases-push_latches : goal.decreases-push_latches
decreases-push_latches l = 8 - l.from
