-- No log so far is ready.
use Rattle.mv_machine.specs.State.{system_of}
use Rattle.mv_machine.specs.System.{place_of}
use Rattle.mv_machine.proofs.Lefts.{NoneBefore}
use Rattle.mv_machine.proofs.merging.ready.Given as goal

abbrev pub invariant-loop-caller : goal.invariant-loop-caller
invariant-loop-caller l = NoneBefore (place_of (system_of l.state)) l.merged l.logs l.caller
