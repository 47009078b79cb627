use Rattle.std.proofs.Common.{◌≡◌, ◌≤◌}
use Rattle.mv_board.specs.Faces.{IsOf}
use Rattle.mv_calls.specs.Rest.{IsAtRest}
use Rattle.mv_task.proofs.Closings.{Closing}
use Rattle.mv_task.proofs.ending.give_back_all.Given as goal

abbrev pub invariant-loop-element : goal.invariant-loop-element
invariant-loop-element g l = record {
  task : IsOf l.station l.task;
  rest : IsAtRest l.task.log;
  from : l.initial.element-iterator.start ≤ l.element-iterator.start;
  end : l.element-iterator.end ≡ l.initial.element-iterator.end;
  closing : Closing l.initial.element-iterator.start l.element-iterator.start l.initial.element-iterator.end l.fn.task l.task;
}
