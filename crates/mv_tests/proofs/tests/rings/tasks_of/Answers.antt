use Rattle.std.proofs.Common.{◌≡◌, length, arith}
use Rattle.mv_tests.specs.Rings.{MayGoOn}
use Rattle.mv_tests.specs.declared.tests.rings.Runner.{Runner}
use Rattle.mv_tests.proofs.Rings.{with_next, without_last}
use Rattle.mv_tests.proofs.tests.rings.tasks_of.Goals as goal

pub loop-preserved : goal.loop-preserved
loop-preserved g c =
    let b = c.args.station.now in
    let r = c.in-Some.runner in
    let parts = without_last (λ (r : Runner). MayGoOn b r.task r.wait r.pause) c.loop.runners.items c.pop_back.new.self.items r
    c.in-Some.ensures.items c.loop.invariant.runners in
    let next : r.task.number ≡ length c.loop.tasks.items = omega (arith, c.number.ensures.number, c.loop.tasks.ok.0) in record {
      order = with_next b c.loop.tasks.items c.give_back.new.tasks.items r.task c.give_back.ensures c.loop.invariant.order parts.1.0 next;
      runners = parts.0;
    }
