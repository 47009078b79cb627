use Rattle.std.proofs.Common.{arith}
use Rattle.std.proofs.lemmas.Grind.{common_steps}
use Rattle.mv_line.proofs.FirstLine.{line_of_text}
use Rattle.mv_line.proofs.line.split_line.Goals as goal

pub returns-then-end-text-clause-lines : goal.returns-then-end-text-clause-lines
returns-then-end-text-clause-lines c = let l = line_of_text c.args.text.now c.requires in grind (arith, common_steps)

pub returns-clause-lines : goal.returns-clause-lines
returns-clause-lines c = let l = line_of_text c.args.text.now c.requires in grind (arith, common_steps)
