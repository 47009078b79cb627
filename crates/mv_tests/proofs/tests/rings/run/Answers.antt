use Rattle.mv_tests.specs.Rings.{MayGoOn}
use Rattle.mv_tests.specs.declared.tests.rings.Runner.{Runner}
use Rattle.mv_tests.proofs.Rings.{with_one, without_first}
use Rattle.mv_tests.proofs.tests.rings.run.Goals as goal

pub loop-preserved : goal.loop-preserved
loop-preserved g c =
    let b = c.args.station.now in
    let parts = without_first (λ (r : Runner). MayGoOn b r.task r.wait r.pause) c.loop.runners.items c.pop_front.new.self.items
    c.in-Some.runner c.in-Some.ensures.items c.loop.invariant.runners in record {
      runners = with_one (λ (r : Runner). MayGoOn b r.task r.wait r.pause) c.pop_front.new.self.items c.add.new.runners.items
          c.turn.result c.add.ensures parts.1 c.turn.ensures;
    }
