use Rattle.std.proofs.Common.{ℕ}
use Rattle.mv_pollscript.specs.Task.{IsTaskAt}
use Rattle.mv_pollscript.proofs.task.ScriptTask.poll.Given as goal

abbrev pub invariant-loop : goal.invariant-loop
invariant-loop g l = (k : ℕ) → IsTaskAt l.station l.table l.calls k l.fn.self → IsTaskAt l.station l.table l.calls k l.self
