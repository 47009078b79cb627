-- Its clauses are lemmas of Gone and Purged.
use Rattle.mv_calls.proofs.Gone.{gone_exactly, confirm_gone, release_gone}
use Rattle.mv_calls.proofs.Removals.{stands_or_purged}
use Rattle.mv_calls.proofs.latch_laws.requests_leave_by_purges.Goals as goal

pub returns-clause-listed : goal.returns-clause-listed
returns-clause-listed c = stands_or_purged

pub returns-clause-gone : goal.returns-clause-gone
returns-clause-gone c = gone_exactly

pub returns-clause-confirm : goal.returns-clause-confirm
returns-clause-confirm c d es e t h = confirm_gone d es e t h.legal h.follows h.object h.operation

pub returns-clause-release : goal.returns-clause-release
returns-clause-release c d es e t conditional h = release_gone d es e t conditional h.legal h.follows h.object h.operation
