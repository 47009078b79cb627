use Rattle.std.proofs.Common.{length, ◌-◌, ◌≤◌, take}
use Rattle.mv_io.specs.Sink.{Appends}
use Rattle.mv_io.proofs.writing.write_all.Given as goal

abbrev pub invariant-loop-taken : goal.invariant-loop-taken
invariant-loop-taken g l = record {
  within : l.taken ≤ length l.bytes;
  appended : Appends (g.K.Sink.taken l.initial.sink) (g.K.Sink.taken l.sink) (take l.taken l.bytes);
  count : g.K.Sink.faults l.initial.sink ≤ g.K.Sink.faults l.sink;
}

abbrev pub decreases-loop-taken : goal.decreases-loop-taken
decreases-loop-taken g l = length l.bytes - l.taken
