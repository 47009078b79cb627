use Rattle.std.proofs.Common.{◌≡◌, ◌≤◌, ◌-◌, [], length}
use Rattle.mv_wait.specs.Ready.{AreReadyBut}
use Rattle.mv_wait.specs.Run.{Went}
use Rattle.mv_wait.specs.Waiting.{AreOwnUpTo}
use Rattle.mv_wait.proofs.station.Station.look_at_unready.Given as goal

abbrev pub invariant-loop-open : goal.invariant-loop-open
invariant-loop-open g l = record {
  went : Went [] l.fn.caller l.caller;
  places : length l.places ≡ length l.fn.places;
  size : l.unready ≤ l.fn.unready;
  own : AreOwnUpTo l.self.config l.caller.number l.places l.unready;
  ready : AreReadyBut l.places l.unready l.caller.ready l.ecbs;
}

abbrev pub decreases-loop-open : goal.decreases-loop-open
decreases-loop-open g l = l.unready - l.open
