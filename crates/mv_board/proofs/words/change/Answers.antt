use Rattle.std.proofs.Common.{sym, arith}
use Rattle.mv_board.proofs.Changing.{next_fields}
use Rattle.mv_board.proofs.words.change.Goals as goal

pub pack-requires-clause-fields : goal.pack-requires-clause-fields
pack-requires-clause-fields c = let low = c.if-place-gt-HIGHEST_PLACE.false in
    next_fields c.args.op c.in_ok-place.state c.in_ok-next.next c.in_ok-next.reply c.in_ok-place.place c.requires
    c.in_ok-place.ensures.fields
    (sym c.if-not-fits.ensures) (omega arith) (sym c.in_ok-next.ensures)
