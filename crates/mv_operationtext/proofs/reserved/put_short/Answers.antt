-- A digit; two digits; and a number up to 99 with two digits behind it.
use Rattle.std.proofs.Common.{◌/◌, arith, append_assoc}
use Rattle.std.proofs.lemmas.Fmt.{decimal_digit}
use Rattle.itoa.proofs.Decimal.{decimal_two, decimal_pair}
use Rattle.mv_operationtext.proofs.reserved.put_short.Goals as goal

pub returns-then-number-lt10-clause-text : goal.returns-then-number-lt10-clause-text
returns-then-number-lt10-clause-text c = rw (c.put_digit.ensures.text, decimal_digit c.args.number c.if-number-lt10.true)

pub returns-then-number-lt100-clause-text : goal.returns-then-number-lt100-clause-text
returns-then-number-lt100-clause-text c =
    rw (c.put_two.ensures.text, decimal_two c.args.number c.if-number-lt10.false c.if-number-lt100.true)

pub returns-then-number-lt1000-clause-text : goal.returns-then-number-lt1000-clause-text
returns-then-number-lt1000-clause-text c =
    rw (
      c.put_two-then-number-lt1000.ensures.text,
      c.put_digit-then-number-lt1000.ensures.text,
      decimal_pair c.args.number c.if-number-lt100.false (omega arith),
      decimal_digit (c.args.number / 100) (omega arith),
      append_assoc,
    )

pub returns-else-number-lt1000-clause-text : goal.returns-else-number-lt1000-clause-text
returns-else-number-lt1000-clause-text c =
    rw (
      c.put_four.ensures.text,
      decimal_pair c.args.number c.if-number-lt100.false (omega arith),
      decimal_two (c.args.number / 100) (omega arith) (omega arith),
    )
