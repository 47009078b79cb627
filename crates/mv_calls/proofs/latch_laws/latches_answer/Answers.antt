-- Its clauses are lemmas of Gone and LatchReplies.
use Rattle.mv_machine.specs.Legal.{after}
use Rattle.mv_calls.proofs.Gone.{confirm_finds_granted, confirm_finds_gone, release_finds_granted}
use Rattle.mv_calls.proofs.LatchReplies.{latch_says, release_wakes}
use Rattle.mv_calls.proofs.latch_laws.latches_answer.Goals as goal

pub returns-clause-replies : goal.returns-clause-replies
returns-clause-replies c d es e op h = latch_says d (after d es) e op h.follows h.object h.operation

pub returns-clause-release_wakes : goal.returns-clause-release_wakes
returns-clause-release_wakes c d es e latch id conditional h =
    release_wakes d (after d es) e latch id conditional h.follows h.object h.operation

pub returns-clause-confirm_granted : goal.returns-clause-confirm_granted
returns-clause-confirm_granted c d es e latch id h = confirm_finds_granted d (after d es) e latch id h.follows h.object h.operation

pub returns-clause-confirm_gone : goal.returns-clause-confirm_gone
returns-clause-confirm_gone c d es e latch id h = confirm_finds_gone d (after d es) e latch id h.follows h.object h.operation

pub returns-clause-release_granted : goal.returns-clause-release_granted
returns-clause-release_granted c d es e latch id conditional h =
    release_finds_granted d (after d es) e latch id conditional h.follows h.object h.operation
