use Rattle.std.proofs.Common.{◌≡◌, Some, [], refl, sym, ap, ◌∙◌, subst}
use Rattle.std.specs.List.{Contains}
use Rattle.mv_machine.specs.declared.entry.Object.{Object}
use Rattle.mv_machine.specs.Owned.{owner_at}
use Rattle.mv_board.specs.Faces.{CallerFace}
use Rattle.mv_board.specs.Steps.{Meets, watch_of, is_ready}
use Rattle.mv_board.specs.View.{met, listed}
use Rattle.mv_board.specs.Words.{HasWord, object_of}
use Rattle.mv_board.proofs.Boards.{same_table, has_word, below, object_is}
use Rattle.mv_board.proofs.Peeking.{watched, peeked}
use Rattle.mv_board.proofs.TurnKeeps.{peeks}
use Rattle.mv_board.proofs.board.Board.peek_word.Goals as goal

pub load-word-requires : goal.load-word-requires
load-word-requires c =
    let has : HasWord c.self.inside.config c.args.object = has_word c.self.inside _ _ c.self.view_is c.requires.word in
    let owner : owner_at c.self.inside.config c.args.object ≡ Some c.caller.inside.events.caller =
    (λ i. owner_at (c.self.view_is i).config c.args.object)
    ∙ (c.requires.own ∙ ap (λ (d : CallerFace). Some d.number) (sym c.caller.view_is)) in
    let there = watched c.self.inside.config c.args.object c.caller.inside.events.caller owner in (
      same_table c.self.inside c.caller.inside _ _ c.self.view_is c.caller.view_is c.requires.board,
      below c.self.inside _ _ c.self.invariant has c.word_number.ensures,
      rw (c.word_number.ensures, c.self.invariant.key)
          (peeks c.self.inside.config _ _ _ _ [] c.caller.invariant.parts c.args.object there.0 has there.1 owner),
    )

pub returns-clause-look : goal.returns-clause-look
returns-clause-look c = λ w watches.
    let v = c.caller.inside.seat.me.0 in
    let x = c.load-word.result in
    let has : HasWord c.self.inside.config c.args.object = has_word c.self.inside _ _ c.self.view_is c.requires.word in
    let here : object_of c.word_number.result ≡ c.args.object = object_is c.self.inside _ _ c.self.invariant has c.word_number.ensures in
    let Sees : Object → Type 0 = λ o. (m : Meets v o x)
    × (c.load-word.new.seat.me.0 ≡ listed (is_ready m.state) (watch_of o) (met o x v)) in
    let step = c.load-word.ensures.2 in
    let sees : Sees c.args.object = subst Sees here (step.meets, step.view) in
    rw (← c.caller.view_is) (
    peeked c.caller.inside (record c.caller.inside { seat = c.load-word.new.seat }) c.args.object x w c.is_ready.result c.caller.invariant
    refl c.load-word.ensures.0
    sees.0 watches sees.1 (c.is_ready.ensures sees.0.place sees.0.state sees.0.unpacks)
    )

pub returns-clause-stays : goal.returns-clause-stays
returns-clause-stays c = λ w watches listed.
    let v = c.caller.inside.seat.me.0 in
    let x = c.load-word.result in
    let has : HasWord c.self.inside.config c.args.object = has_word c.self.inside _ _ c.self.view_is c.requires.word in
    let here : object_of c.word_number.result ≡ c.args.object = object_is c.self.inside _ _ c.self.invariant has c.word_number.ensures in
    let meets : Meets v c.args.object x = subst (λ o. Meets v o x) here c.load-word.ensures.2.meets in
    c.is_ready.ensures meets.place meets.state meets.unpacks
    ∙ meets.ready w watches (subst (λ (d : CallerFace). Contains d.ready w) (sym c.caller.view_is) listed)
