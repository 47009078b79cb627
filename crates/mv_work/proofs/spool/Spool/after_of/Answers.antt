use Rattle.std.proofs.Common.{subst}
use Rattle.mv_work.specs.Spool.{IsSpool}
use Rattle.mv_work.proofs.Spools.{after_earlier, after_few}
use Rattle.mv_work.proofs.spool.Spool.after_of.Goals as goal

pub returns-clause-few : goal.returns-clause-few
returns-clause-few g c = after_few (subst IsSpool c.self.view_is c.self.invariant) c.args.job c.requires

pub returns-clause-earlier : goal.returns-clause-earlier
returns-clause-earlier g c = after_earlier (subst IsSpool c.self.view_is c.self.invariant) c.args.job c.requires
