use Rattle.std.proofs.Common.{◌≤◌, ◌<◌, ◌+◌, ◌*◌}
use Rattle.mv_wait.specs.Prelude.{element_count}
use Rattle.mv_server.specs.Right.{StaysReady}
use Rattle.mv_server.proofs.Tokens.{MayPause}
use Rattle.mv_server.proofs.server.work.Given as goal

abbrev pub invariant-loop-round : goal.invariant-loop-round
invariant-loop-round g l = record {
  kept : StaysReady l.station l.requests (4 * l.round + 1) l.fn.task l.task;
  element : l.token.element < element_count l.station.config;
  may : MayPause l.station.config l.task l.token;
  low : l.token.generation ≤ 262143;
}
