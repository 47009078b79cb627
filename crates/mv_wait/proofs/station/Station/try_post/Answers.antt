use Rattle.mv_wait.proofs.Singles.{try_post_served}
use Rattle.mv_wait.proofs.station.Station.try_post.Goals as goal

pub returns-clause-answer : goal.returns-clause-answer
returns-clause-answer c =
    try_post_served c.args.self.now.config c.args.ecb c.args.expected c.args.code c.in_ok-reply.reply c.posted.result.0
    c.args.task.now c.try_event.new.task c.in_ok-reply.ensures.answer c.posted.ensures.answer c.requires.task.rest

pub returns-clause-rest : goal.returns-clause-rest
returns-clause-rest c =
    (try_post_served c.args.self.now.config c.args.ecb c.args.expected c.args.code c.in_ok-reply.reply c.posted.result.0
    c.args.task.now c.try_event.new.task c.in_ok-reply.ensures.answer c.posted.ensures.answer c.requires.task.rest).made.rest
