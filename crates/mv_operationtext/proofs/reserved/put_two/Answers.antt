-- The table's digits.
use Rattle.std.proofs.Common.{append_assoc}
use Rattle.mv_operationtext.proofs.Pairs.{PAIRS_at}
use Rattle.mv_operationtext.proofs.reserved.put_two.Goals as goal

pub returns-clause-text : goal.returns-clause-text
returns-clause-text c =
    let digits = PAIRS_at c.args.number c.requires.pair in
    rw (c.push_reserved-2.ensures.items, c.push_reserved.ensures.items, digits.0, digits.1, append_assoc)
