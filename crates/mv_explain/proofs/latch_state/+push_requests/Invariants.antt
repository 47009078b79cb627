use Rattle.std.proofs.Common.{length}
use Rattle.mv_explain.proofs.latch_state.+push_requests.Given as goal

abbrev pub decreases-push_requests : goal.decreases-push_requests
decreases-push_requests l = length l.requests.now
