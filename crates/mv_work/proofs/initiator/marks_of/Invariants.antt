use Rattle.std.proofs.Common.{◌≡◌, ◌+◌, ◌≤◌, drop}
use Rattle.mv_work.specs.Initiating.{steps_marks}
use Rattle.mv_work.proofs.initiator.marks_of.Given as goal

abbrev pub invariant-loop-k : goal.invariant-loop-k
invariant-loop-k l = record {
  sum : l.marks + steps_marks (drop l.k l.steps) ≡ steps_marks l.steps;
  few : l.marks ≤ l.k;
}
