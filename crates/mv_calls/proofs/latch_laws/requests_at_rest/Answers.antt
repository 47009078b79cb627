-- Its clauses are lemmas of Queues.
use Rattle.mv_calls.proofs.Queues.{waits_in_queue, granted_at_rest, confirm_at_rest}
use Rattle.mv_calls.proofs.latch_laws.requests_at_rest.Goals as goal

pub returns-clause-queued : goal.returns-clause-queued
returns-clause-queued c = waits_in_queue

pub returns-clause-at_rest : goal.returns-clause-at_rest
returns-clause-at_rest c = granted_at_rest

pub returns-clause-confirm : goal.returns-clause-confirm
returns-clause-confirm c d es e t waiting h = confirm_at_rest d es e t waiting h.legal h.follows h.object h.operation
