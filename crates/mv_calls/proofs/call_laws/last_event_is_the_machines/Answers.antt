-- Its clauses are lemmas of Behind and mv_machine's Replies.
use Rattle.mv_calls.proofs.Behind.{last_is_behind, front_is_possible}
use Rattle.mv_machine.proofs.Replies.{reply_is_of_kind, request_has_place, ecb_reply_is, element_reply_is, volume_reply_is, latch_reply_is}
use Rattle.mv_calls.proofs.call_laws.last_event_is_the_machines.Goals as goal

pub returns-clause-behind : goal.returns-clause-behind
returns-clause-behind c = last_is_behind

pub returns-clause-kind : goal.returns-clause-kind
returns-clause-kind c = reply_is_of_kind

pub returns-clause-number : goal.returns-clause-number
returns-clause-number c = request_has_place

pub returns-clause-ecb : goal.returns-clause-ecb
returns-clause-ecb c = ecb_reply_is

pub returns-clause-element : goal.returns-clause-element
returns-clause-element c = element_reply_is

pub returns-clause-volume : goal.returns-clause-volume
returns-clause-volume c = volume_reply_is

pub returns-clause-latch : goal.returns-clause-latch
returns-clause-latch c = latch_reply_is

pub returns-clause-before : goal.returns-clause-before
returns-clause-before c = front_is_possible
