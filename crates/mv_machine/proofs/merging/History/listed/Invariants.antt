-- What is listed was given, and what is still to come stands behind it.
use Rattle.std.proofs.Common.{◌≡◌, ◌++◌, length}
use Rattle.mv_machine.proofs.merging.History.listed.Given as goal

abbrev pub invariant-loop-entry : goal.invariant-loop-entry
invariant-loop-entry l = record {
  config : l.history.config ≡ l.fn.self.config;
  past : l.history.past ≡ l.fn.self.past ++ l.journal.items;
  whole : l.journal.items ++ l.history.coming ≡ l.fn.self.coming;
}

abbrev pub decreases-loop-entry : goal.decreases-loop-entry
decreases-loop-entry l = length l.history.coming
