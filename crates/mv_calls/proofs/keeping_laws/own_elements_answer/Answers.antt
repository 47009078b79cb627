-- Its clauses are lemmas of OwnReplies.
use Rattle.mv_calls.proofs.OwnReplies.{open_reply, pause_reply, resume_reply, close_reply, pause_is_not_busy, close_is_not_busy}
use Rattle.mv_calls.proofs.OwnReplies.{resume_is_not_busy}
use Rattle.mv_calls.proofs.keeping_laws.own_elements_answer.Goals as goal

pub returns-clause-opening : goal.returns-clause-opening
returns-clause-opening c d es e n h = open_reply d es e n h.legal h.follows h.object h.operation

pub returns-clause-pause : goal.returns-clause-pause
returns-clause-pause c d es e n g h = pause_reply d es e n g h.legal h.follows h.object h.operation

pub returns-clause-resume : goal.returns-clause-resume
returns-clause-resume c d es e n g h = resume_reply d es e n g h.legal h.follows h.object h.operation

pub returns-clause-close : goal.returns-clause-close
returns-clause-close c d es e n g h = close_reply d es e n g h.legal h.follows h.object h.operation

pub returns-clause-pause_not_busy : goal.returns-clause-pause_not_busy
returns-clause-pause_not_busy c d es e n g h = pause_is_not_busy d es e n g h.legal h.follows h.object h.operation

pub returns-clause-close_not_busy : goal.returns-clause-close_not_busy
returns-clause-close_not_busy c d es e n g h = close_is_not_busy d es e n g h.legal h.follows h.object h.operation

pub returns-clause-resume_not_busy : goal.returns-clause-resume_not_busy
returns-clause-resume_not_busy c d es e n g h = resume_is_not_busy d es e n g h.legal h.follows h.object h.operation
