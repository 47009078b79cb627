-- What was written stands behind what was taken.
use Rattle.std.proofs.Common.{List, ℕ, subst, sym}
use Rattle.mv_io.specs.Sink.{Appends, AppendsFront}
use Rattle.mv_entrytext.specs.HistoryText.{IsWrittenSoFar}
use Rattle.mv_entrytext.proofs.WrittenSoFar.{written_on, cut_there}
use Rattle.mv_entrytext.proofs.history_text.write_piece.Goals as goal

pub returns-in-Ok-clause-written : goal.returns-in-Ok-clause-written
returns-in-Ok-clause-written g c = λ first text p.
    let mid = g.K.Sink.taken c.args.journal.now in
    let new = g.K.Sink.taken c.write_all.new.sink in
    subst (λ (xs : List ℕ). IsWrittenSoFar first new xs text) (sym {A = List ℕ} c.clear.ensures.items)
    (written_on first mid new c.args.piece.now.items text
    (subst (λ (xs : List ℕ). Appends mid new xs) c.deref.ensures.value c.in-Ok.ensures.whole) p)

pub returns-in-Err-clause-cut : goal.returns-in-Err-clause-cut
returns-in-Err-clause-cut g c = λ first text p.
    let mid = g.K.Sink.taken c.args.journal.now in
    let new = g.K.Sink.taken c.write_all.new.sink in
    cut_there first mid new c.args.piece.now.items text
    (subst (λ (xs : List ℕ). AppendsFront mid new xs) c.deref.ensures.value c.in-Err.ensures.front) p
