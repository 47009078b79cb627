-- Two and two.
use Rattle.std.proofs.Common.{append_assoc}
use Rattle.mv_operationtext.proofs.reserved.put_four.Goals as goal

pub returns-clause-text : goal.returns-clause-text
returns-clause-text c = rw (c.put_two-2.ensures.text, c.put_two.ensures.text, append_assoc)
