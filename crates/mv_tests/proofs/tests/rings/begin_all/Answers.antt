use Rattle.mv_tests.specs.Rings.{MayGoOn}
use Rattle.mv_tests.specs.declared.tests.rings.Runner.{Runner}
use Rattle.mv_tests.proofs.Rings.{with_one}
use Rattle.mv_tests.proofs.tests.rings.begin_all.Goals as goal

pub loop-preserved : goal.loop-preserved
loop-preserved g c = record {
  fresh = c.take_last-task.ensures.others;
  runners = with_one (λ (r : Runner). MayGoOn c.args.station.now r.task r.wait r.pause) c.loop.runners.items c.add.new.runners.items
      c.begin.result c.add.ensures c.loop.invariant.runners c.begin.ensures;
}
