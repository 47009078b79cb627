use Rattle.std.proofs.Common.{refl, sym, subst}
use Rattle.std.specs.List.{Contains}
use Rattle.mv_board.specs.declared.watch.Watch.TheVariants as watch
use Rattle.mv_board.specs.Faces.{Peeks}
use Rattle.mv_board.proofs.board.Board.peek.Goals as goal

pub returns-in-Ecb-clause-look : goal.returns-in-Ecb-clause-look
returns-in-Ecb-clause-look g c =
    subst (λ w. Peeks c.args.caller.now w c.peek_word.result c.peek_word.new.caller) (sym c.in-Ecb.is)
    (c.peek_word.ensures.look (watch.Ecb c.in-Ecb.ecb) refl)

pub returns-in-Ecb-clause-stays : goal.returns-in-Ecb-clause-stays
returns-in-Ecb-clause-stays g c = λ listed.
    c.peek_word.ensures.stays (watch.Ecb c.in-Ecb.ecb) refl (subst (Contains c.args.caller.now.ready) c.in-Ecb.is listed)

pub returns-in-Element-clause-look : goal.returns-in-Element-clause-look
returns-in-Element-clause-look g c =
    subst (λ w. Peeks c.args.caller.now w c.peek_word-in-Element.result c.peek_word-in-Element.new.caller) (sym c.in-Element.is)
    (c.peek_word-in-Element.ensures.look (watch.Element c.in-Element.element) refl)

pub returns-in-Element-clause-stays : goal.returns-in-Element-clause-stays
returns-in-Element-clause-stays g c = λ listed.
    c.peek_word-in-Element.ensures.stays (watch.Element c.in-Element.element) refl
    (subst (Contains c.args.caller.now.ready) c.in-Element.is listed)
