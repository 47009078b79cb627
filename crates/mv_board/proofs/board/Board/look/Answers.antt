use Rattle.std.proofs.Common.{[], refl, ap, ◌∙◌, subst}
use Rattle.mv_board.specs.Steps.{Meets}
use Rattle.mv_board.specs.View.{met}
use Rattle.mv_board.specs.Words.{HasWord}
use Rattle.mv_board.proofs.Boards.{same_table, has_word, below, object_is}
use Rattle.mv_board.proofs.Logging.{found}
use Rattle.mv_board.proofs.Keeps.{looks}
use Rattle.mv_board.proofs.board.Board.look.Goals as goal

pub load-requires : goal.load-requires
load-requires c =
    let has : HasWord c.self.inside.config c.args.object = has_word c.self.inside _ _ c.self.view_is c.requires.word in (
      same_table c.self.inside c.caller.inside _ _ c.self.view_is c.caller.view_is c.requires.board,
      below c.self.inside _ _ c.self.invariant has c.word_number.ensures,
      rw (c.word_number.ensures, c.self.invariant.key)
          (looks c.self.inside.config _ _ _ _ [] c.caller.invariant.parts c.args.object has),
    )

pub returns-clause-found : goal.returns-clause-found
returns-clause-found c =
    let has : HasWord c.self.inside.config c.args.object = has_word c.self.inside _ _ c.self.view_is c.requires.word in
    let here = object_is c.self.inside c.args.object c.word_number.result c.self.invariant has c.word_number.ensures in
    let looked = c.load.ensures.2 in
    rw (← c.caller.view_is) (
    found c.caller.inside (record c.caller.inside { seat = c.load.new.seat }) c.args.object c.load.result c.caller.invariant refl
    c.load.ensures.0
    (subst (λ o. Meets c.caller.inside.seat.me.0 o c.load.result) here looked.meets)
    (looked.view ∙ ap (λ o. met o c.load.result c.caller.inside.seat.me.0) here)
    )
