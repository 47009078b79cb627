-- Its clauses are lemmas of Needs.
use Rattle.mv_calls.proofs.Needs.{call_needs, call_keeps}
use Rattle.mv_calls.proofs.call_laws.calls_keep_to_their_events.Goals as goal

pub returns-clause-few : goal.returns-clause-few
returns-clause-few c = call_needs

pub returns-clause-possible : goal.returns-clause-possible
returns-clause-possible c = call_keeps
