-- A number up to 9999 with four digits behind it.
use Rattle.std.proofs.Common.{arith, append_assoc}
use Rattle.itoa.proofs.Decimal.{decimal_four}
use Rattle.mv_operationtext.proofs.reserved.put_digits.Goals as goal

pub returns-then-number-lt-LONG_NUMBER-clause-text : goal.returns-then-number-lt-LONG_NUMBER-clause-text
returns-then-number-lt-LONG_NUMBER-clause-text c =
    rw (
      c.put_four.ensures.text,
      c.put_short-then-number-lt-LONG_NUMBER.ensures.text,
      decimal_four c.args.number c.if-number-lt10000.false (omega arith),
      append_assoc,
    )
