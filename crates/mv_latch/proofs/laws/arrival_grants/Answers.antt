use Rattle.mv_latch.proofs.Holders.{granted_at_end, queued_at_end}
use Rattle.mv_latch.proofs.laws.arrival_grants.Goals as goal

pub returns-clause-granted : goal.returns-clause-granted
returns-clause-granted c = granted_at_end

pub returns-clause-queued : goal.returns-clause-queued
returns-clause-queued c = queued_at_end
