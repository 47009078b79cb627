use Rattle.mv_polled.proofs.Waits.{wait_may_begin}
use Rattle.mv_tests.proofs.tests.polls.a_wait.Goals as goal

pub returns-clause-stage : goal.returns-clause-stage
returns-clause-stage g c =
    wait_may_begin c.args.station.now.config c.in-Ok.call _ c.args.count c.args.ecbs.now c.args.task.now c.in-Ok.ensures
    (record { rest = c.requires.rest; blocks = c.requires.blocks; left = c.requires.left })
