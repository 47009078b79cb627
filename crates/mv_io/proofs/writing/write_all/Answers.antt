use Rattle.std.proofs.Common.{arith}
use Rattle.std.proofs.lemmas.Grind.{common_steps}
use Rattle.mv_io.proofs.Fronts.{Appends-more}
use Rattle.mv_io.proofs.writing.write_all.Goals as goal

pub loop-taken-preserved : goal.loop-taken-preserved
loop-taken-preserved g c = record {
  within = grind (arith, common_steps);
  appended = Appends-more _ _ _ _ _ _ c.loop-taken.invariant.appended c.in-Ok.ensures.bytes;
  count = grind arith;
}
