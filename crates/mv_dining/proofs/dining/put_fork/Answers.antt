use Rattle.mv_dining.proofs.Calls.{release_dines, release_puts}
use Rattle.mv_dining.proofs.dining.put_fork.Goals as goal

pub returns-clause-ready : goal.returns-clause-ready
returns-clause-ready g c =
    release_dines c.args.station.now _ _ _ c.args.task.now c.release_latch.new.task c.release_latch.ensures.served c.requires.ready

pub returns-clause-has : goal.returns-clause-has
returns-clause-has g c =
    release_puts c.args.station.now _ _ _ c.args.task.now c.release_latch.new.task c.release_latch.ensures.served c.requires.ready
