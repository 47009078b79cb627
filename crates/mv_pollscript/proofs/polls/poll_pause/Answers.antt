use Rattle.mv_runscript.proofs.Served.{served_with}
use Rattle.mv_pollscript.proofs.polls.poll_pause.Goals as goal

pub returns-in-Ready-clause-turn : goal.returns-in-Ready-clause-turn
returns-in-Ready-clause-turn g c t at =
    let paused = c.in-Ready.ensures.turn t at in served_with c.paused.ensures (rw c.poll.ensures.call at paused.served)
