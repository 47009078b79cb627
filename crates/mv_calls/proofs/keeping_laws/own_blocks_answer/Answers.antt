-- Its clauses are lemmas of OwnBlocks.
use Rattle.mv_calls.proofs.OwnBlocks.{arm_reply, extend_reply, settle_reply}
use Rattle.mv_calls.proofs.keeping_laws.own_blocks_answer.Goals as goal

pub returns-clause-arm : goal.returns-clause-arm
returns-clause-arm c d es e n h = arm_reply d es e n h.legal h.follows h.object h.operation

pub returns-clause-extend : goal.returns-clause-extend
returns-clause-extend c d es e n exit h = extend_reply d es e n exit h.legal h.follows h.object h.operation

pub returns-clause-settle : goal.returns-clause-settle
returns-clause-settle c d es e n h = settle_reply d es e n h.legal h.follows h.object h.operation
