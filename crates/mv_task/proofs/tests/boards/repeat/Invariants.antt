use Rattle.std.proofs.Common.{◌≡◌}
use Rattle.mv_task.proofs.tests.boards.repeat.Given as goal

abbrev pub invariant-loop : goal.invariant-loop
invariant-loop g l = record { same : l.seat ≡ l.initial.seat }
