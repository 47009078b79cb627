use Rattle.mv_work.proofs.spool.Spool.on_ends.Goals as goal

pub returns : goal.returns
returns g c = rw (← c.after_of.ensures.parts, ← c.some_above-skipped.ensures) c.set_exit.ensures
