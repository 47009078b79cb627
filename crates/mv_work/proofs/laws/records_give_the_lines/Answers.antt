-- The law is right_lines of brought/Lines.
use Rattle.mv_work.proofs.brought.Lines.{right_lines}
use Rattle.mv_work.proofs.laws.records_give_the_lines.Goals as goal

pub returns : goal.returns
returns c = λ deck records right. right_lines deck records right
