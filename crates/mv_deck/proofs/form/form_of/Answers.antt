use Rattle.std.proofs.Common.{arith}
use Rattle.std.proofs.lemmas.Grind.{common_steps}
use Rattle.mv_deck.proofs.form.form_of.Goals as goal

pub returns-in-47-3 : goal.returns-in-47-3
returns-in-47-3 c = let e = c.job_of.ensures c.args.version in grind (arith, common_steps)
