use Rattle.std.proofs.Common.{subst}
use Rattle.mv_work.specs.Spool.{IsSpool}
use Rattle.mv_work.proofs.spool.Spool.pass.Goals as goal

pub returns : goal.returns
returns g c = record { spool = subst IsSpool c.self.view_is c.self.invariant }
