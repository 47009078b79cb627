use Rattle.std.proofs.Common.{sym}
use Rattle.mv_line.proofs.Fields.{first_field, behind_field}
use Rattle.mv_line.proofs.field.split_field.Goals as goal

pub returns-clause-fields : goal.returns-clause-fields
returns-clause-fields c =
    rw (c.split_at.ensures.front, c.split_at.ensures.back, c.end_at.ensures.place, c.without_first_spaces-text.ensures)
    (first_field c.args.text.now)

pub returns-clause-behind : goal.returns-clause-behind
returns-clause-behind c =
    rw (c.split_at.ensures.back, c.end_at.ensures.place, c.without_first_spaces-text.ensures) (sym (behind_field c.args.text.now))
