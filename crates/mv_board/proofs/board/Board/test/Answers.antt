use Rattle.std.proofs.Common.{◌≡◌, ◌<◌, [], Some, None, refl, sym, ap, ◌∙◌, subst}
use Rattle.mv_machine.specs.declared.entry.Op.{Op}
use Rattle.mv_machine.specs.Log.{with_entry}
use Rattle.mv_board.specs.declared.caller.Caller.TheInside.{Inside}
use Rattle.mv_board.specs.Caller.{face_of}
use Rattle.mv_board.specs.Faces.{CallerFace, HappenedAt}
use Rattle.mv_board.specs.Steps.{Meets, Made, MadeAfterLooks}
use Rattle.mv_board.specs.Words.{HasWord, changed, test_of}
use Rattle.mv_board.proofs.Boards.{same_table, has_word, below, object_is}
use Rattle.mv_board.proofs.Changing.{test_fields}
use Rattle.mv_board.proofs.Logging.{entry, own_is}
use Rattle.mv_board.proofs.Keeps.{tests}
use Rattle.mv_board.proofs.Looks.{no_looks, after_looks}
use Rattle.mv_board.proofs.WordEvents.{HasLogged, unlooked, happened, seated, possible}
use Rattle.mv_board.proofs.board.Board.test.Goals as goal

pub fetch_add-word-requires : goal.fetch_add-word-requires
fetch_add-word-requires c =
    let has : HasWord c.self.inside.config c.args.object = has_word c.self.inside _ _ c.self.view_is c.requires.word in
    let left : 0 < c.caller.inside.events.left = rw (ap (λ (d : CallerFace). d.left) c.caller.view_is) c.requires.left in (
      same_table c.self.inside c.caller.inside _ _ c.self.view_is c.caller.view_is c.requires.board,
      below c.self.inside _ _ c.self.invariant has c.word_number.ensures,
      rw (c.word_number.ensures, c.self.invariant.key)
          (tests c.self.inside.config _ _ _ _ [] c.caller.invariant.parts c.args.object has left),
    )

pub change-requires : goal.change-requires
change-requires c = rw c.test_of-op.ensures (test_fields c.args.object)

pub unreachable-requires : goal.unreachable-requires
unreachable-requires c =
    let has : HasWord c.self.inside.config c.args.object = has_word c.self.inside _ _ c.self.view_is c.requires.word in
    let here = object_is c.self.inside c.args.object c.word_number.result c.self.invariant has c.word_number.ensures in
    let event = c.fetch_add-word.ensures.2.event in
    let made : changed c.args.object (test_of c.args.object) c.fetch_add-word.result ≡ Some (event.place, event.word, event.reply) =
    ap (λ o. changed o (test_of o) c.fetch_add-word.result) (sym here) ∙ event.change in
    let none : changed c.args.object (test_of c.args.object) c.fetch_add-word.result ≡ None =
    ap (λ op. changed c.args.object op c.fetch_add-word.result) (sym c.test_of-op.ensures) ∙ (sym c.change.ensures ∙ c.in_default.is) in
    cc (made, none)

-- the event, and the caller after it
later : goal.After-append → Inside
later c = record c.caller.inside { events = c.append.new.self; seat = c.fetch_add-word.new.seat }

made : (c : goal.After-append)
    → MadeAfterLooks c.caller.inside.seat.me.0 c.args.object (test_of c.args.object) c.in-Some.place c.in-Some.reply
    c.fetch_add-word.new.seat.me.0
made c =
    let v = c.caller.inside.seat.me.0 in
    let has : HasWord c.self.inside.config c.args.object = has_word c.self.inside _ _ c.self.view_is c.requires.word in
    let here = object_is c.self.inside c.args.object c.word_number.result c.self.invariant has c.word_number.ensures in
    let alone = own_is c.caller.inside c.caller.invariant in
    after_looks v v c.fetch_add-word.new.seat.me.0 c.args.object (test_of c.args.object) c.fetch_add-word.result c.in-Some.place
    c.in-Some.field-0-1 c.in-Some.reply alone (no_looks v c.args.object alone)
    (subst (λ o. Meets v o c.fetch_add-word.result) here c.fetch_add-word.ensures.2.meets)
    (subst (λ o. Made v o (test_of o) c.fetch_add-word.result c.fetch_add-word.new.seat.me.0) here c.fetch_add-word.ensures.2.event)
    (ap (λ op. changed c.args.object op c.fetch_add-word.result) (sym c.test_of-op.ensures) ∙ (sym c.change.ensures ∙ c.in-Some.is))

logged : (c : goal.After-append)
    → HasLogged c.caller.inside (later c) (entry c.caller.inside c.args.object (test_of c.args.object) c.in-Some.place c.in-Some.reply)
unfolding later
logged c = record {
  same = c.append.ensures.same;
  log = c.append.ensures.logged ∙ ap (λ (op : Op). with_entry c.caller.inside.events.log (entry c.caller.inside c.args.object op
      c.in-Some.place c.in-Some.reply)) c.test_of-op.ensures;
  table = c.fetch_add-word.ensures.0;
  slots = c.fetch_add-word.ensures.2.slots;
}

left : (c : goal.After-append) → 0 < c.caller.inside.events.left
left c = rw (ap (λ (d : CallerFace). d.left) c.caller.view_is) c.requires.left

pub invariant_of-caller : goal.invariant_of-caller
unfolding later
invariant_of-caller c =
    seated c.caller.inside (later c) _ _ _ _ c.caller.invariant (left c) (made c) (logged c)

pub returns-clause-event : goal.returns-clause-event
unfolding later
returns-clause-event c =
    let has : HasWord c.self.inside.config c.args.object = has_word c.self.inside _ _ c.self.view_is c.requires.word in (
      c.in-Some.place,
      subst (λ (d : CallerFace). HappenedAt d c.args.object c.in-Some.place (test_of c.args.object) c.in-Some.reply (face_of (later c)))
          c.caller.view_is
          (happened c.caller.inside (later c) _ _ _ _ c.caller.invariant (left c) (made c) (logged c) c.self.inside.config has),
    )

pub returns-clause-possible : goal.returns-clause-possible
unfolding later
returns-clause-possible c =
    possible c.caller.inside (later c) _ _ _ _ c.caller.invariant (left c) (made c) (logged c)
    c.args.self.now.config (ap (λ (d : CallerFace). d.about) c.caller.view_is ∙ c.requires.board.1)

pub returns-clause-met : goal.returns-clause-met
unfolding later made after_looks no_looks
returns-clause-met c =
    subst (λ (d : CallerFace). (face_of (later c)).met ≡ d.met) c.caller.view_is
    (unlooked c.caller.inside (later c) _ _ _ _ c.caller.invariant (left c) (made c) (logged c) refl)
