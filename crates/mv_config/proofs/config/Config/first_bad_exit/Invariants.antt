-- No exit so far is bad.
use Rattle.std.proofs.Common.{◌≡◌, ◌+◌, drop, length, map}
use Rattle.std.specs.List.{position_from}
use Rattle.mv_config.specs.Check.{first_bad_exit, is_bad_exit}
use Rattle.mv_config.specs.Config.{setup_of, exit_of}
use Rattle.mv_config.proofs.config.Config.first_bad_exit.Given as goal

abbrev pub invariant-loop-exit : goal.invariant-loop-exit
invariant-loop-exit l = record {
  number : l.number ≡ l.exit-index + 1;
  rest : first_bad_exit (setup_of l.self) ≡ position_from (is_bad_exit (length l.self.owners.items)) l.number
      (map exit_of (drop l.exit-index l.self.exits.items));
}
