use Rattle.std.proofs.Common.{◌≡◌}
use Rattle.mv_task.proofs.tests.waits.act_often.Given as goal

abbrev pub invariant-loop : goal.invariant-loop
invariant-loop g l = record { same : l.worker ≡ l.initial.worker }
