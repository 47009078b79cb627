use Rattle.std.proofs.Common.{subst}
use Rattle.mv_work.specs.Spool.{IsSpool}
use Rattle.mv_work.proofs.spool.Spool.jobs.Goals as goal

pub returns-clause-spool : goal.returns-clause-spool
returns-clause-spool g c = subst IsSpool c.self.view_is c.self.invariant
