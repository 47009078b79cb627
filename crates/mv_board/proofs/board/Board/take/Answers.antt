use Rattle.std.proofs.Common.{◌≡◌, [], ◌∷◌, sym, ap, ◌∙◌, subst, arith}
use Rattle.atomic_table.specs.Table.{Me, rest}
use Rattle.mv_board.specs.declared.item.Item.{Item}
use Rattle.mv_board.specs.declared.item.Item.TheVariants.{Held}
use Rattle.mv_board.specs.declared.view.View.{View}
use Rattle.mv_board.specs.Faces.{BoardFace}
use Rattle.mv_board.specs.View.{own}
use Rattle.mv_board.proofs.TurnKeeps.{takes}
use Rattle.mv_board.proofs.board.Board.take.Goals as goal

pub compare_exchange-requires : goal.compare_exchange-requires
compare_exchange-requires g c =
    let since = c.loop.invariant in (
      since.table ∙ (c.requires.board ∙ sym (ap (λ (b : BoardFace). b.table) c.self.view_is)),
      (let wide = c.self.invariant.words in omega arith),
      rw c.self.invariant.key (takes c.self.inside.config _ _ _ (own c.loop.seat.me.0) []
          (subst (λ (m : Me Item View). m.0.parts ≡ own m.0 ∷ []) (sym since.same) c.requires.alone)),
    )

pub exchange-requires : goal.exchange-requires
exchange-requires g c =
    let got = c.compare_exchange.ensures.2.free c.if-compare_exchange-eq0.true in (
      c.compare_exchange.ensures.0 ∙ (c.loop.invariant.table ∙ (c.requires.board ∙ sym (ap (λ (b : BoardFace). b.table) c.self.view_is))),
      (Held got.0, got.1 ∙ ap (λ l. (0, Held got.0) ∷ rest l) (sym got.1)),
    )
