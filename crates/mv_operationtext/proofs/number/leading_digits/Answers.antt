-- One digit more.
use Rattle.std.proofs.Common.{◌<◌, length, arith}
use Rattle.std.proofs.lemmas.Grind.{common_steps, pow_more}
use Rattle.mv_operationtext.proofs.Leading.{value_there, few_digits}
use Rattle.mv_operationtext.proofs.number.leading_digits.Goals as goal

pub loop-count-preserved : goal.loop-count-preserved
loop-count-preserved c =
    let text = c.args.text.now in
    let i = c.loop-count.count in
    let lt : i < length text = omega arith in
    record {
      within = omega arith;
      digits = grind (arith, common_steps);
      value = omega (arith, value_there text i lt, c.loop-count.invariant.value, c.from.ensures);
      small = grind (arith, common_steps, pow_more);
    }

pub overflow_mul-value : goal.overflow_mul-value
overflow_mul-value c = omega (arith, few_digits c.loop-count.count (omega arith), c.loop-count.invariant.small)

pub overflow_add-value : goal.overflow_add-value
overflow_add-value c =
    omega (arith, few_digits c.loop-count.count (omega arith), c.loop-count.invariant.small, c.is_ascii_digit.ensures.cases)
