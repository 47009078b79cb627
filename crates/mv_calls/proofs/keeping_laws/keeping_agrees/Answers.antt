-- Its clauses are lemmas of AtRest, Blocks, Elements and Uses.
use Rattle.mv_calls.proofs.AtRest.{extended_block, plain_block, no_wait_bit, element_at_rest}
use Rattle.mv_calls.proofs.Blocks.{block_agrees}
use Rattle.mv_calls.proofs.Elements.{element_agrees}
use Rattle.mv_calls.proofs.Uses.{caller_is, kept_requests}
use Rattle.mv_calls.proofs.keeping_laws.keeping_agrees.Goals as goal

pub returns-clause-caller : goal.returns-clause-caller
returns-clause-caller c = caller_is

pub returns-clause-requests : goal.returns-clause-requests
returns-clause-requests c = kept_requests

pub returns-clause-block : goal.returns-clause-block
returns-clause-block c = block_agrees

pub returns-clause-extended : goal.returns-clause-extended
returns-clause-extended c = extended_block

pub returns-clause-plain : goal.returns-clause-plain
returns-clause-plain c = plain_block

pub returns-clause-at_rest : goal.returns-clause-at_rest
returns-clause-at_rest c = no_wait_bit

pub returns-clause-element : goal.returns-clause-element
returns-clause-element c = element_agrees

pub returns-clause-element_at_rest : goal.returns-clause-element_at_rest
returns-clause-element_at_rest c = element_at_rest
