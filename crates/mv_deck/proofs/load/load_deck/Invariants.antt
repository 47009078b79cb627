use Rattle.std.proofs.Common.{◌≡◌}
use Rattle.std.specs.Prelude.{flat_map}
use Rattle.mv_deck.specs.Load.{first_lines, ended}
use Rattle.mv_deck.proofs.load.load_deck.Given as goal

-- the lines so far
abbrev pub invariant-loop-job : goal.invariant-loop-job
invariant-loop-job l = l.out.items ≡ flat_map ended (first_lines l.job)
