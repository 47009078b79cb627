use Rattle.std.proofs.Common.{◌∙◌}
use Rattle.mv_polled.proofs.Pauses.{pause_goes_on, pause_left_since}
use Rattle.mv_polled.proofs.pause_future.PauseFutureFuture.poll.Goals as goal

pub returns-in-Ready-poll-clause-value : goal.returns-in-Ready-poll-clause-value
returns-in-Ready-poll-clause-value g c = λ t0 at.
    let s = c.args.self.now.station.now.config in
    let t = c.args.self.now.task.now in
    let u = c.poll.new.task in
    let again = pause_goes_on s c.poll.new.self t0 t u (c.in_default.ensures.turn t0 at) in (
      c.poll-2.new.self,
      c.poll-2.new.task,
      c.poll-2.ensures.call ∙ c.poll.ensures.call,
      c.in-Ready-poll.ensures.turn t0 again,
    )

pub returns-in-Pending-clause-same : goal.returns-in-Pending-clause-same
returns-in-Pending-clause-same g c = λ x gives t0 at.
    let s = c.args.self.now.station.now.config in
    let t = c.args.self.now.task.now in
    let u = c.poll.new.task in
    let v = c.poll-2.new.task in
    let again = pause_goes_on s c.poll.new.self t0 t u (c.in_default.ensures.turn t0 at) in
    let later = pause_goes_on s c.poll-2.new.self t0 u v (c.in-Pending.ensures.turn t0 again) in
    let given = gives t0 later in
    (given.0, given.1, given.2 ∙ (c.poll-2.ensures.call ∙ c.poll.ensures.call), given.3)

pub returns-in-Ready-poll-clause-turn : goal.returns-in-Ready-poll-clause-turn
returns-in-Ready-poll-clause-turn g c = λ t0 at.
    let s = c.args.self.now.station.now.config in
    let t = c.args.self.now.task.now in
    let u = c.poll.new.task in
    c.in-Ready-poll.ensures.turn t0 (pause_goes_on s c.poll.new.self t0 t u (c.in_default.ensures.turn t0 at))

pub returns-in-Pending-clause-turn : goal.returns-in-Pending-clause-turn
returns-in-Pending-clause-turn g c = λ t0 at.
    let s = c.args.self.now.station.now.config in
    let t = c.args.self.now.task.now in
    let u = c.poll.new.task in
    let first = c.in_default.ensures.turn t0 at in
    let later = c.in-Pending.ensures.turn t0 (pause_goes_on s c.poll.new.self t0 t u first) in
    pause_left_since s c.poll-2.new.self first.met.0 t0 t u c.poll-2.new.task first.met.1 later
