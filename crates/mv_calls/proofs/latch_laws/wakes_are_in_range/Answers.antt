-- Its clauses are lemmas of Uses.
use Rattle.mv_calls.proofs.Uses.{wakes_of_next, wakes_heard}
use Rattle.mv_calls.proofs.latch_laws.wakes_are_in_range.Goals as goal

pub returns-clause-wakes : goal.returns-clause-wakes
returns-clause-wakes c = wakes_of_next

pub returns-clause-heard : goal.returns-clause-heard
returns-clause-heard c = wakes_heard
