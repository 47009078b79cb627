use Rattle.std.proofs.Common.{arith}
use Rattle.std.proofs.lemmas.Grind.{common_steps}
use Rattle.mv_deck.proofs.Mapped.{double_from}
use Rattle.mv_deck.proofs.parts.has_double.Goals as goal

pub returns-then-repeats_first : goal.returns-then-repeats_first
returns-then-repeats_first c = let e = double_from c.loop-place.place c.args.parts.now c.loop-place-test.true in grind (arith, common_steps)

pub loop-place-preserved : goal.loop-place-preserved
loop-place-preserved c = let e = double_from c.loop-place.place c.args.parts.now c.loop-place-test.true in grind (arith, common_steps)
