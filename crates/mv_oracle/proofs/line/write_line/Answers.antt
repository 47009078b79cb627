-- The entry of a step's numbers is the machine's next one, whether its line is written or not.
use Rattle.mv_oracle.proofs.Replies.{next_of}
use Rattle.mv_oracle.proofs.line.write_line.Goals as goal

pub returns-in_default-clause-next : goal.returns-in_default-clause-next
returns-in_default-clause-next c = next_of c.args.operation.now c.args.answer.now

pub returns-then-is_err-clause-next : goal.returns-then-is_err-clause-next
returns-then-is_err-clause-next c = next_of c.args.operation.now c.args.answer.now

pub returns-then-copy_line-clause-next : goal.returns-then-copy_line-clause-next
returns-then-copy_line-clause-next c = next_of c.args.operation.now c.args.answer.now

pub returns-clause-next : goal.returns-clause-next
returns-clause-next c = next_of c.args.operation.now c.args.answer.now
