use Rattle.mv_polled.proofs.Waits.{wait_goes_on}
use Rattle.mv_tests.proofs.tests.polls.is_over.Goals as goal

pub returns-in-Ready-clause-over : goal.returns-in-Ready-clause-over
returns-in-Ready-clause-over g c = λ e. let at = c.requires.stage in (c.in-Ready.ensures.turn at.0 at.1).served.made.rest

pub returns-in-Pending-clause-stage : goal.returns-in-Pending-clause-stage
returns-in-Pending-clause-stage g c = λ e. let at = c.requires.stage in (
  at.0,
  wait_goes_on c.args.station.now.config c.poll.new.self at.0 c.args.task.now c.poll.new.task (c.in-Pending.ensures.turn at.0 at.1),
)
