use Rattle.std.proofs.Common.{arith}
use Rattle.std.proofs.lemmas.Grind.{common_steps}
use Rattle.mv_deck.specs.declared.form.Version.TheVariants.{One}
use Rattle.mv_deck.proofs.form.version_of.Goals as goal

pub returns-then-not-is_comment : goal.returns-then-not-is_comment
returns-then-not-is_comment c = let d = c.declared.ensures One in grind (arith, common_steps)
