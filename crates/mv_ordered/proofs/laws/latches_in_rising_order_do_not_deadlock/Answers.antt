-- Its clauses are lemmas of Chains.
use Rattle.mv_ordered.proofs.Chains.{leads_to_holder, leads_to_one, holder_continues_or_waits, no_ring, waits_higher, next_event}
use Rattle.mv_ordered.proofs.laws.latches_in_rising_order_do_not_deadlock.Goals as goal

pub returns-clause-holder : goal.returns-clause-holder
returns-clause-holder c = leads_to_holder

pub returns-clause-continues : goal.returns-clause-continues
returns-clause-continues c = leads_to_one

pub returns-clause-holders : goal.returns-clause-holders
returns-clause-holders c = holder_continues_or_waits

pub returns-clause-no_ring : goal.returns-clause-no_ring
returns-clause-no_ring c = no_ring

pub returns-clause-rises : goal.returns-clause-rises
returns-clause-rises c = waits_higher

pub returns-clause-next : goal.returns-clause-next
returns-clause-next c = next_event
