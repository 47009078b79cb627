use Rattle.std.proofs.Common.{◌-◌}
use Rattle.mv_explain.proofs.before.+push_earlier.Given as goal

abbrev pub decreases-push_earlier : goal.decreases-push_earlier
decreases-push_earlier l = 3 - l.shown
