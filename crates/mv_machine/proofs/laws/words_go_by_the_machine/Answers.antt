-- Its clauses are lemmas of Objects and WordSteps.
use Rattle.mv_machine.proofs.Objects.{elsewhere}
use Rattle.mv_machine.proofs.WordSteps.{fields_admitted, reply_by_state, state_by_state, place_rises}
use Rattle.mv_machine.proofs.laws.words_go_by_the_machine.Goals as goal

pub returns-clause-fields : goal.returns-clause-fields
returns-clause-fields c = fields_admitted

pub returns-clause-reply : goal.returns-clause-reply
returns-clause-reply c = reply_by_state

pub returns-clause-state : goal.returns-clause-state
returns-clause-state c = state_by_state

pub returns-clause-place : goal.returns-clause-place
returns-clause-place c = place_rises

pub returns-clause-others : goal.returns-clause-others
returns-clause-others c m k o q op = elsewhere m k o op q
