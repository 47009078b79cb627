use Rattle.std.proofs.Common.{◌≡◌, ◌≤◌, ◌+◌, ◌++◌, List, length, take, drop}
use Rattle.std.specs.List.{AllByRecursion}
use Rattle.mv_calls.specs.Program.{Program}
use Rattle.mv_calls.specs.Waits.{settle_all, complete_count}
use Rattle.mv_calls.specs.declared.outcomes.WaitSlot.{WaitSlot}
use Rattle.mv_wait.specs.Ready.{ready_count}
use Rattle.mv_wait.specs.Run.{Runs}
use Rattle.mv_wait.specs.Waiting.{IsArmedFor, ArePlain, Waited, HasLowCode}
use Rattle.mv_wait.proofs.station.Station.end_wait.Given as goal

abbrev pub invariant-loop-i : goal.invariant-loop-i
invariant-loop-i g l = record {
  runs : (found : List WaitSlot) (f : List WaitSlot → Program Waited)
      → Runs l.i (settle_all l.ecbs found f) (settle_all (drop l.i l.ecbs) (found ++ take l.i l.out) f) l.fn.task l.task;
  waits : IsArmedFor (drop l.i l.ecbs) l.task.log;
  plain : ArePlain l.task l.ecbs;
  enough : l.count ≤ complete_count (take l.i l.out) + ready_count l.task.ready (drop l.i l.ecbs);
  size : length l.out ≡ length l.ecbs;
  codes : AllByRecursion HasLowCode (take l.i l.out);
}
