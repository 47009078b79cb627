use Rattle.mv_latchset.proofs.Answering.{says_standing}
use Rattle.mv_latchset.proofs.Checks.{check_served}
use Rattle.mv_latchset.proofs.checking.check_latch.Goals as goal

pub standing_in-requires : goal.standing_in-requires
standing_in-requires g c = says_standing c.args.station.now.config c.args.task.now c.event-reply.new.task c.args.token.latch
    c.args.token.id c.event-reply.result c.event-reply.ensures.event c.event-reply.ensures.possible

pub returns : goal.returns
returns g c = record {
  served = check_served c.args.token.latch c.args.token.id c.args.task.now c.event-reply.new.task c.event-reply.result
      c.standing_in.result c.event-reply.ensures.event c.standing_in.ensures c.requires.task.rest;
}
