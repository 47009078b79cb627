use Rattle.std.proofs.Common.{length}
use Rattle.mv_pollscript.proofs.standing.+has_waiter_after_shared.Given as goal

abbrev pub decreases-has_waiter_after_shared : goal.decreases-has_waiter_after_shared
decreases-has_waiter_after_shared l = length l.requests.now
