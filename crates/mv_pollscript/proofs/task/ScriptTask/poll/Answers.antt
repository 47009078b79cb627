use Rattle.mv_pollscript.proofs.task.ScriptTask.poll.Goals as goal

pub step-requires-clause-task : goal.step-requires-clause-task
step-requires-clause-task g c = let p = c.requires.task in (p.0, c.loop.invariant p.0 p.1)
