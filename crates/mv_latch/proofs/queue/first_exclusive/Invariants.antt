-- The answer lies in what is left.
use Rattle.std.proofs.Common.{◌≡◌, filter, not, drop}
use Rattle.mv_latch.specs.Request.{shared_request}
use Rattle.mv_latch.specs.Latch.{first_id}
use Rattle.mv_latch.proofs.queue.first_exclusive.Given as goal

abbrev pub invariant-loop-request : goal.invariant-loop-request
invariant-loop-request l =
    first_id (filter (λ q. not (shared_request q)) (drop l.request-index l.list)) ≡ first_id (filter (λ q. not (shared_request q)) l.list)
