use Rattle.std.proofs.Common.{◌≡◌}
use Rattle.mv_latchset.proofs.Wakes.{posts_one}
use Rattle.mv_latchset.proofs.waking.post_wake.Goals as goal

pub returns-in-Some-clause-posted : goal.returns-in-Some-clause-posted
returns-in-Some-clause-posted g c = posts_one c.args.station.now.config c.args.wake c.in-Some.ecb (λ a. a ≡ c.post.result)
    c.args.task.now c.post.new.task c.in-Some.is c.post.ensures.served
