use Rattle.std.proofs.Common.{arith, refl}
use Rattle.std.proofs.lemmas.Grind.{common_steps}
use Rattle.mv_io.proofs.Fronts.{Reads-gives, Reads-end, GivesFront-more, GivesFront-end}
use Rattle.mv_io.proofs.reading.fill.Goals as goal

pub loop-filled-preserved : goal.loop-filled-preserved
loop-filled-preserved g c = record {
  within = grind (arith, common_steps);
  given = GivesFront-more _ _ _ _ _ _ _ _ _ c.loop-filled.invariant.given (Reads-gives _ _ _ _ c.in_ok-count.ensures.bytes)
      (omega arith) (omega arith) (omega (arith, c.in_ok-count.ensures.bound)) refl;
  count = omega arith;
}

pub returns-then-count-eq0-clause-bytes : goal.returns-then-count-eq0-clause-bytes
returns-then-count-eq0-clause-bytes g c =
    GivesFront-more _ _ _ _ _ _ _ _ _ c.loop-filled.invariant.given (Reads-gives _ _ _ _ c.in_ok-count.ensures.bytes)
    (omega arith) (omega arith) (omega (arith, c.in_ok-count.ensures.bound)) (omega arith)

pub returns-then-count-eq0-clause-end : goal.returns-then-count-eq0-clause-end
returns-then-count-eq0-clause-end g c =
    λ _. GivesFront-end _ _ _ _ 0 _ c.loop-filled.invariant.given
    (Reads-end _ _ _ (rw c.if-count-eq0.true at c.in_ok-count.ensures.bytes) (omega arith)) (omega arith)
