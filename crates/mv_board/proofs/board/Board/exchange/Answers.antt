use Rattle.std.proofs.Common.{◌≡◌, ◌<◌, true, [], refl, sym, ap, ◌∙◌, subst}
use Rattle.mv_machine.specs.Kept.{allowed}
use Rattle.mv_config.specs.Setup.{Setup}
use Rattle.mv_board.specs.declared.view.Part.{Part}
use Rattle.mv_board.specs.Faces.{BoardFace}
use Rattle.mv_board.specs.Steps.{Meets, Made, LooksOn}
use Rattle.mv_board.specs.View.{own, met}
use Rattle.mv_board.specs.Words.{HasWord}
use Rattle.mv_board.proofs.Boards.{has_word, below, object_is}
use Rattle.mv_board.proofs.Changing.{fields_allowed, meets_changed}
use Rattle.mv_board.proofs.Keeps.{happens}
use Rattle.mv_board.proofs.Looks.{no_looks, look_more, own_kept, alone_still, meets_still, after_looks}
use Rattle.mv_board.proofs.board.Board.exchange.Goals as goal

pub loop-init : goal.loop-init
loop-init g c =
    let v = c.args.seat.now.me.0 in
    let looked = c.first_look-seen.ensures.looked in record {
      table = refl;
      slots = refl;
      looks = subst (LooksOn v c.args.object) (sym looked.0)
          (look_more v v c.args.object c.first_look-seen.result c.requires.alone (no_looks v c.args.object c.requires.alone));
      meets = looked.1;
    }

pub change-requires : goal.change-requires
change-requires g c = fields_allowed c.args.self.now.config (own c.args.seat.now.me.0).caller
    (own c.args.seat.now.me.0).log c.args.object c.args.op c.requires.word c.requires.admitted

pub unreachable-requires : goal.unreachable-requires
unreachable-requires g c =
    let v = c.args.seat.now.me.0 in
    meets_changed c.args.self.now.config (own v).caller (own v).log v c.args.object c.args.op c.loop.seen c.requires.word
    c.requires.admitted c.loop.invariant.meets c.requires.left
    (sym c.change.ensures ∙ c.in_default.is)

pub compare_exchange_with-found-requires : goal.compare_exchange_with-found-requires
compare_exchange_with-found-requires g c =
    let v = c.args.seat.now.me.0 in
    let w = c.loop.seat.me.0 in
    let since = c.loop.invariant in
    let config = ap (λ (b : BoardFace). b.config) c.self.view_is in
    let has : HasWord c.self.inside.config c.args.object = has_word c.self.inside _ _ c.self.view_is c.requires.word in
    let same = own_kept v w c.args.object c.requires.alone since.looks in
    let may : allowed c.self.inside.config (own w).caller (own w).log c.args.object c.args.op ≡ true =
    subst (λ (p : Part). allowed c.self.inside.config p.caller p.log c.args.object c.args.op ≡ true) (sym same)
    (subst (λ (s : Setup). allowed s (own v).caller (own v).log c.args.object c.args.op ≡ true) (sym config) c.requires.admitted) in
    let left : 0 < (own w).left = subst (λ (p : Part). 0 < p.left) (sym same) c.requires.left in (
      since.table ∙ (c.first_look-seen.ensures.same.0 ∙ (c.requires.board ∙ sym (ap (λ (b : BoardFace). b.table) c.self.view_is))),
      below c.self.inside _ _ c.self.invariant has c.word_number-word.ensures,
      rw (c.word_number-word.ensures, c.self.invariant.key)
          (happens c.self.inside.config _ _ _ _ [] (alone_still v w c.args.object c.requires.alone since.looks) c.args.object c.args.op
          c.loop.seen
          c.in-Some-change.place c.in-Some-change.next c.in-Some-change.reply has may left
          (sym c.change.ensures ∙ c.in-Some-change.is)),
    )

pub returns-then-found-seen-clause-event : goal.returns-then-found-seen-clause-event
returns-then-found-seen-clause-event g c =
    let has : HasWord c.self.inside.config c.args.object = has_word c.self.inside _ _ c.self.view_is c.requires.word in
    let here = object_is c.self.inside c.args.object c.word_number-word.result c.self.invariant has c.word_number-word.ensures in
    let between = c.loop.seat.me.0 in
    let new = c.compare_exchange_with-found.new.seat.me.0 in
    let hit = c.compare_exchange_with-found.ensures.2.hit c.if-found-seen.true in
    let made : Made between c.args.object c.args.op c.loop.seen new =
    subst (λ r. Made between c.args.object c.args.op r new) c.if-found-seen.true
    (subst (λ o. Made between o c.args.op c.compare_exchange_with-found.result new) here hit) in
    after_looks c.args.seat.now.me.0 between new c.args.object c.args.op c.loop.seen c.in-Some-change.place c.in-Some-change.next
    c.in-Some-change.reply c.requires.alone c.loop.invariant.looks c.loop.invariant.meets made
    (sym c.change.ensures ∙ c.in-Some-change.is)

pub loop-preserved : goal.loop-preserved
loop-preserved g c =
    let v = c.args.seat.now.me.0 in
    let w = c.loop.seat.me.0 in
    let since = c.loop.invariant in
    let has : HasWord c.self.inside.config c.args.object = has_word c.self.inside _ _ c.self.view_is c.requires.word in
    let here = object_is c.self.inside c.args.object c.word_number-word.result c.self.invariant has c.word_number-word.ensures in
    let step = c.compare_exchange_with-found.ensures.2 in record {
      table = c.compare_exchange_with-found.ensures.0 ∙ since.table;
      slots = step.slots ∙ since.slots;
      looks = subst (LooksOn v c.args.object)
          (sym (step.miss c.if-found-seen.false ∙ ap (λ o. met o c.compare_exchange_with-found.result w) here))
          (look_more v w c.args.object c.compare_exchange_with-found.result c.requires.alone since.looks);
      meets = meets_still v w c.args.object c.compare_exchange_with-found.result c.requires.alone since.looks
          (subst (λ o. Meets w o c.compare_exchange_with-found.result) here step.meets);
    }
