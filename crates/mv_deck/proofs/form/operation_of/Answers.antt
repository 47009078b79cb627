use Rattle.std.proofs.Common.{arith}
use Rattle.std.proofs.lemmas.Grind.{common_steps}
use Rattle.mv_deck.proofs.form.operation_of.Goals as goal

pub returns-then-is_word-2 : goal.returns-then-is_word-2
returns-then-is_word-2 c = let e = c.use_of.ensures c.args.version in grind (arith, common_steps)
