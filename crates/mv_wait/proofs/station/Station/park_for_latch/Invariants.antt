use Rattle.std.proofs.Common.{[]}
use Rattle.mv_wait.specs.Run.{Went}
use Rattle.mv_wait.proofs.station.Station.park_for_latch.Given as goal

abbrev pub invariant-loop : goal.invariant-loop
invariant-loop g l = Went [] l.fn.task l.task
