use Rattle.std.proofs.Common.{◌-◌}
use Rattle.mv_diagnostics.proofs.decks.+push_runs.Given as goal

abbrev pub decreases-push_runs : goal.decreases-push_runs
decreases-push_runs l = 9 - l.from
