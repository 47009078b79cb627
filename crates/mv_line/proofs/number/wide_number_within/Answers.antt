-- A number that has passed the highest stays above it.
use Rattle.std.proofs.Common.{sym, arith}
use Rattle.std.proofs.lemmas.Grind.{common_steps}
use Rattle.mv_line.proofs.Numbers.{too_high}
use Rattle.mv_line.proofs.number.wide_number_within.Goals as goal

pub returns-in_default-clause-number : goal.returns-in_default-clause-number
returns-in_default-clause-number c =
    sym (too_high c.args.low c.args.high c.loop-byte.value c.loop-byte.byte-index c.args.text.now (omega arith)
    (grind (arith, common_steps)) c.loop-byte.invariant.so_far (omega (arith, c.in_default.ensures)))
