use Rattle.std.proofs.Common.{◌≡◌, ◌+◌, length}
use Rattle.mv_board.specs.Faces.{AreFresh}
use Rattle.mv_tests.proofs.tests.polls.open_first.Given as goal

abbrev pub invariant-loop-i : goal.invariant-loop-i
invariant-loop-i g l = record {
  fresh : AreFresh l.station 0 l.tasks.items;
  count : length l.tasks.items + l._i ≡ 7;
}
