use Rattle.std.proofs.Common.{ℕ, ◌+◌, ◌<◌}
use Rattle.mv_polledspool.specs.Polled.{IsPolled}
use Rattle.mv_polledspool.proofs.polled.Polled.poll.Given as goal

abbrev pub invariant-loop : goal.invariant-loop
invariant-loop g l = (k : ℕ) → k < l.spool.initiators + 3 → IsPolled l.spool k l.fn.self → IsPolled l.spool k l.self
