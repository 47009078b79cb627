use Rattle.std.proofs.Common.{arith}
use Rattle.mv_work.proofs.Spools.{block_there, done_cost}
use Rattle.mv_work.proofs.spool.Spool.done.Goals as goal

pub returns-clause-there : goal.returns-clause-there
returns-clause-there g c = block_there c.jobs.ensures.spool c.done.result (omega arith)

pub returns-clause-cost : goal.returns-clause-cost
returns-clause-cost g c = rw (c.done.ensures, c.jobs.ensures.jobs) (done_cost c.jobs.ensures.spool c.args.job (omega arith))
