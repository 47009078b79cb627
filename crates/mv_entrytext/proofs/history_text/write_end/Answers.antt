-- The end's line stands behind the text so far, and with it all of it is written.
use Rattle.std.proofs.Common.{ℕ, List, ◌++◌}
use Rattle.mv_entrytext.specs.Journal.{End, line}
use Rattle.mv_entrytext.proofs.WrittenSoFar.{cut_longer, if_refused, written_more, written_out}
use Rattle.mv_entrytext.proofs.history_text.write_end.Goals as goal

pub returns-in_err-make_room-clause-cut : goal.returns-in_err-make_room-clause-cut
returns-in_err-make_room-clause-cut g c = λ first text p.
    if_refused c.from_residual.result
    (cut_longer first (g.K.Sink.taken c.make_room.new.journal) text (line (End c.args.count)) (c.in_err-make_room.ensures.cut first text p))

pub returns-clause-whole : goal.returns-clause-whole
returns-clause-whole g c = λ first text p.
    let last : List ℕ = line (End c.args.count) in
    written_out c.write_piece.result first (g.K.Sink.taken c.write_piece.new.journal) c.write_piece.new.piece.items (text ++ last)
    (c.write_piece.ensures.written first (text ++ last)
    (written_more first (g.K.Sink.taken c.make_room.new.journal) c.make_room.new.piece.items c.put_end_line.new.out.items text last
    c.put_end_line.ensures.text (c.in_ok-make_room.ensures.written first text p))) c.write_piece.ensures.empty

pub returns-clause-cut : goal.returns-clause-cut
returns-clause-cut g c = λ first text p.
    let last : List ℕ = line (End c.args.count) in
    c.write_piece.ensures.cut first (text ++ last)
    (written_more first (g.K.Sink.taken c.make_room.new.journal) c.make_room.new.piece.items c.put_end_line.new.out.items text last
    c.put_end_line.ensures.text (c.in_ok-make_room.ensures.written first text p))
