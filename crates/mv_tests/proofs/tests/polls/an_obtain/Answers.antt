use Rattle.mv_latch.specs.declared.request.Mode.TheVariants.{Exclusive}
use Rattle.mv_polled.proofs.Obtains.{obtain_may_begin}
use Rattle.mv_tests.proofs.tests.polls.an_obtain.Goals as goal

pub returns : goal.returns
returns c =
    obtain_may_begin c.args.station.now.config c.new.result 0 _ Exclusive c.args.task.now c.new.ensures
    (record { rest = c.requires.rest; left = c.requires.left })
