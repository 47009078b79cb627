-- Its clauses are lemmas of Gone and mv_machine's Grants.
use Rattle.mv_calls.proofs.Gone.{granted_or_purged}
use Rattle.mv_machine.proofs.Grants.{requests_stay}
use Rattle.mv_calls.proofs.latch_laws.requests_stay.Goals as goal

pub returns-clause-listed : goal.returns-clause-listed
returns-clause-listed c = requests_stay

pub returns-clause-held : goal.returns-clause-held
returns-clause-held c = granted_or_purged
