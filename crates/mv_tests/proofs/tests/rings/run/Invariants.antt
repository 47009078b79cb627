use Rattle.std.specs.List.{AllByRecursion}
use Rattle.mv_tests.specs.Rings.{MayGoOn}
use Rattle.mv_tests.specs.declared.tests.rings.Runner.{Runner}
use Rattle.mv_tests.proofs.tests.rings.run.Given as goal

abbrev pub invariant-loop : goal.invariant-loop
invariant-loop g l = record {
  runners : AllByRecursion (λ (r : Runner). MayGoOn l.station r.task r.wait r.pause) l.runners.items;
}
