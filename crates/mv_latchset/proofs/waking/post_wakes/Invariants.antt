use Rattle.std.proofs.Common.{◌≡◌}
use Rattle.mv_board.specs.Faces.{IsOf}
use Rattle.mv_calls.specs.Rest.{IsAtRest}
use Rattle.mv_latchset.proofs.Wakes.{Posted}
use Rattle.mv_latchset.proofs.waking.post_wakes.Given as goal

abbrev pub invariant-loop-i : goal.invariant-loop-i
invariant-loop-i g l = record {
  task : IsOf l.station l.task;
  rest : IsAtRest l.task.log;
  told : l.task.told ≡ l.fn.task.told;
  posted : Posted l.station.config l.fn.task.wakes l.i l.fn.task l.task;
}
