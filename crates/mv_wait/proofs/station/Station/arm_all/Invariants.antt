use Rattle.std.proofs.Common.{take, drop}
use Rattle.mv_calls.specs.Program.{Program}
use Rattle.mv_calls.specs.Waits.{arm_all}
use Rattle.mv_wait.specs.Run.{Runs}
use Rattle.mv_wait.specs.Waiting.{IsArmedFor, ArePlain, Waited}
use Rattle.mv_wait.proofs.Waits.{AreIdle}
use Rattle.mv_wait.proofs.station.Station.arm_all.Given as goal

abbrev pub invariant-loop-ecb : goal.invariant-loop-ecb
invariant-loop-ecb g l = record {
  runs : (p : Program Waited) → Runs l.ecb-index (arm_all l.ecbs p) (arm_all (drop l.ecb-index l.ecbs) p) l.fn.task l.task;
  waits : IsArmedFor (take l.ecb-index l.ecbs) l.task.log;
  plain : ArePlain l.task l.ecbs;
  idle : AreIdle l.task.log (drop l.ecb-index l.ecbs);
}
