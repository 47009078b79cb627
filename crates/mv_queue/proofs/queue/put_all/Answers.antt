use Rattle.std.proofs.Common.{sym}
use Rattle.mv_queue.proofs.queue.put_all.Goals as goal

pub returns-clause-put : goal.returns-clause-put
returns-clause-put g c = record { rest = c.loop-tried.rest.now; whole = sym c.loop-tried.invariant.put }
