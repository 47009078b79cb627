use Rattle.std.proofs.Common.{[], sym, ap, ◌∙◌, subst}
use Rattle.mv_board.specs.Faces.{BoardFace}
use Rattle.mv_board.specs.Steps.{Meets}
use Rattle.mv_board.specs.View.{met}
use Rattle.mv_board.specs.Words.{HasWord}
use Rattle.mv_board.proofs.Boards.{has_word, below, object_is}
use Rattle.mv_board.proofs.Keeps.{looks, looks_by_exchange}
use Rattle.mv_board.proofs.board.Board.first_look.Goals as goal

pub compare_exchange-requires : goal.compare_exchange-requires
compare_exchange-requires c =
    let has : HasWord c.self.inside.config c.args.object = has_word c.self.inside _ _ c.self.view_is c.requires.word in (
      c.requires.board ∙ sym (ap (λ (b : BoardFace). b.table) c.self.view_is),
      below c.self.inside _ _ c.self.invariant has c.word_number-word.ensures,
      rw (c.word_number-word.ensures, c.self.invariant.key)
          (looks_by_exchange c.self.inside.config _ _ _ _ [] c.requires.alone c.args.object has),
    )

pub load-requires : goal.load-requires
load-requires c =
    let has : HasWord c.self.inside.config c.args.object = has_word c.self.inside _ _ c.self.view_is c.requires.word in (
      c.requires.board ∙ sym (ap (λ (b : BoardFace). b.table) c.self.view_is),
      below c.self.inside _ _ c.self.invariant has c.word_number-word.ensures,
      rw (c.word_number-word.ensures, c.self.invariant.key)
          (looks c.self.inside.config _ _ _ _ [] c.requires.alone c.args.object has),
    )

pub returns-then-far-clause-looked : goal.returns-then-far-clause-looked
returns-then-far-clause-looked c =
    let has : HasWord c.self.inside.config c.args.object = has_word c.self.inside _ _ c.self.view_is c.requires.word in
    let here = object_is c.self.inside c.args.object c.word_number-word.result c.self.invariant has c.word_number-word.ensures in
    let looked = c.compare_exchange.ensures.2 in (
      looked.view ∙ ap (λ o. met o c.compare_exchange.result c.args.seat.now.me.0) here,
      subst (λ o. Meets c.args.seat.now.me.0 o c.compare_exchange.result) here looked.meets,
    )

pub returns-clause-looked : goal.returns-clause-looked
returns-clause-looked c =
    let has : HasWord c.self.inside.config c.args.object = has_word c.self.inside _ _ c.self.view_is c.requires.word in
    let here = object_is c.self.inside c.args.object c.word_number-word.result c.self.invariant has c.word_number-word.ensures in
    let looked = c.load.ensures.2 in (
      looked.view ∙ ap (λ o. met o c.load.result c.args.seat.now.me.0) here,
      subst (λ o. Meets c.args.seat.now.me.0 o c.load.result) here looked.meets,
    )
