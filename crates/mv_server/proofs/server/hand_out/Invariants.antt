use Rattle.std.proofs.Common.{◌+◌, ◌*◌}
use Rattle.mv_server.specs.Pool.{workers}
use Rattle.mv_server.specs.Right.{StaysReady}
use Rattle.mv_server.proofs.server.hand_out.Given as goal

abbrev pub invariant-loop-worker : goal.invariant-loop-worker
invariant-loop-worker g l = StaysReady l.station l.requests (2 * workers + 2 * l.worker) l.fn.task l.task
