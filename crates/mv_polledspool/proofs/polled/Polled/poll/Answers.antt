use Rattle.mv_polledspool.proofs.polled.Polled.poll.Goals as goal

pub begin-requires-clause-polled : goal.begin-requires-clause-polled
begin-requires-clause-polled g c =
    let p = c.requires.polled in (p.0, p.1, c.loop.invariant p.0 p.1 p.2)

pub advance-requires-clause-polled : goal.advance-requires-clause-polled
advance-requires-clause-polled g c =
    let p = c.requires.polled in (p.0, p.1, c.loop.invariant p.0 p.1 p.2)
