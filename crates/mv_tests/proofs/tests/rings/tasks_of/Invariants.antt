use Rattle.std.specs.List.{AllByRecursion}
use Rattle.mv_board.specs.Faces.{AreInOrder}
use Rattle.mv_tests.specs.Rings.{MayGoOn}
use Rattle.mv_tests.specs.declared.tests.rings.Runner.{Runner}
use Rattle.mv_tests.proofs.tests.rings.tasks_of.Given as goal

abbrev pub invariant-loop : goal.invariant-loop
invariant-loop g l = record {
  order : AreInOrder l.station 0 l.tasks.items;
  runners : AllByRecursion (λ (r : Runner). MayGoOn l.station r.task r.wait r.pause) l.runners.items;
}
