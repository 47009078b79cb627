use Rattle.std.proofs.Common.{◌≡◌, ◌<◌, true, List, [], refl, sym, ap, ◌∙◌, subst}
use Rattle.mv_machine.specs.Kept.{allowed}
use Rattle.mv_board.specs.declared.caller.Caller.TheInside.{Inside}
use Rattle.mv_board.specs.Caller.{face_of}
use Rattle.mv_board.specs.Faces.{CallerFace, HappenedAt, IsAsListed}
use Rattle.mv_board.specs.declared.view.Part.{Part}
use Rattle.mv_board.proofs.Answering.{as_listed}
use Rattle.mv_board.specs.Steps.{Meets, Made, MadeAfterLooks}
use Rattle.mv_board.specs.View.{own, first_of, met}
use Rattle.mv_board.specs.Words.{HasWord, changed}
use Rattle.mv_board.proofs.Boards.{same_table, has_word, below, object_is}
use Rattle.mv_board.proofs.Changing.{fields_allowed, meets_changed, read_parts}
use Rattle.mv_board.proofs.Logging.{entry, own_is, own_left, missed}
use Rattle.mv_board.proofs.Keeps.{looks, happens}
use Rattle.mv_board.proofs.Looks.{no_looks, after_looks}
use Rattle.mv_board.proofs.WordEvents.{HasLogged, unlooked, happened, seated, possible}
use Rattle.mv_board.proofs.board.Board.try_event.Goals as goal

pub change-requires : goal.change-requires
change-requires c = fields_allowed c.args.self.now.config c.args.caller.now.number c.args.caller.now.log c.args.object c.args.op
    c.requires.word c.requires.admitted

pub load-requires : goal.load-requires
load-requires c =
    let has : HasWord c.self.inside.config c.args.object = has_word c.self.inside _ _ c.self.view_is c.requires.word in (
      same_table c.self.inside c.caller.inside _ _ c.self.view_is c.caller.view_is c.requires.board,
      below c.self.inside _ _ c.self.invariant has c.word_number-word.ensures,
      rw (c.word_number-word.ensures, c.self.invariant.key)
          (looks c.self.inside.config _ _ _ _ [] c.caller.invariant.parts c.args.object has),
    )

pub returns-in_default-clause-answer : goal.returns-in_default-clause-answer
returns-in_default-clause-answer c =
    let v = c.caller.inside.seat.me.0 in
    let has : HasWord c.self.inside.config c.args.object = has_word c.self.inside _ _ c.self.view_is c.requires.word in
    let here = object_is c.self.inside c.args.object c.word_number-word.result c.self.invariant has c.word_number-word.ensures in
    let meets = subst (λ o. Meets v o c.load.result) here c.load.ensures.2.meets in
    let left : 0 < (own v).left = rw (own_left c.caller.inside c.caller.invariant ∙ ap (λ (d : CallerFace). d.left) c.caller.view_is)
    c.requires.left in
    rw (← c.caller.view_is) (
    missed c.caller.inside (record c.caller.inside { seat = c.load.new.seat }) c.args.object c.args.expected c.load.result
    c.caller.invariant refl c.load.ensures.0 meets
    (c.load.ensures.2.view ∙ ap (λ o. met o c.load.result v) here)
    (λ same. meets_changed c.args.self.now.config c.args.caller.now.number c.args.caller.now.log v c.args.object c.args.op c.load.result
    c.requires.word c.requires.admitted meets left
    (ap (changed c.args.object c.args.op) same ∙ (sym c.change.ensures ∙ c.in_default.is)))
    )

pub compare_exchange_with-found-requires : goal.compare_exchange_with-found-requires
compare_exchange_with-found-requires c =
    let has : HasWord c.self.inside.config c.args.object = has_word c.self.inside _ _ c.self.view_is c.requires.word in
    let left : 0 < c.caller.inside.events.left = rw (ap (λ (d : CallerFace). d.left) c.caller.view_is) c.requires.left in
    let may : allowed c.self.inside.config c.caller.inside.events.caller c.caller.inside.events.log.entries c.args.object c.args.op ≡ true =
    (λ i. allowed (c.self.view_is i).config (c.caller.view_is i).number (c.caller.view_is i).log c.args.object c.args.op)
    ∙ c.requires.admitted in (
      same_table c.self.inside c.caller.inside _ _ c.self.view_is c.caller.view_is c.requires.board,
      below c.self.inside _ _ c.self.invariant has c.word_number-word.ensures,
      rw (c.word_number-word.ensures, c.self.invariant.key)
          (happens c.self.inside.config _ _ _ _ [] c.caller.invariant.parts c.args.object c.args.op c.args.expected c.in-Some.place
          c.in-Some.next c.in-Some.reply has may left
          (sym c.change.ensures ∙ c.in-Some.is)),
    )

pub returns-then-found-expected-clause-answer : goal.returns-then-found-expected-clause-answer
returns-then-found-expected-clause-answer c =
    let v = c.caller.inside.seat.me.0 in
    let step = c.compare_exchange_with-found.ensures.2 in
    let has : HasWord c.self.inside.config c.args.object = has_word c.self.inside _ _ c.self.view_is c.requires.word in
    let here = object_is c.self.inside c.args.object c.word_number-word.result c.self.invariant has c.word_number-word.ensures in
    rw (← c.caller.view_is) (
    missed c.caller.inside (record c.caller.inside { seat = c.compare_exchange_with-found.new.seat }) c.args.object c.args.expected
    c.compare_exchange_with-found.result c.caller.invariant refl
    c.compare_exchange_with-found.ensures.0 (subst (λ o. Meets v o c.compare_exchange_with-found.result) here step.meets)
    (step.miss c.if-found-expected.true ∙ ap (λ o. met o c.compare_exchange_with-found.result v) here) c.if-found-expected.true
    )

-- the event, and the caller after it
later : goal.After-append → Inside
later c = record c.caller.inside { events = c.append.new.self; seat = c.compare_exchange_with-found.new.seat }

made : (c : goal.After-append)
    → MadeAfterLooks c.caller.inside.seat.me.0 c.args.object c.args.op c.in-Some.place c.in-Some.reply
    c.compare_exchange_with-found.new.seat.me.0
made c =
    let v = c.caller.inside.seat.me.0 in
    let new = c.compare_exchange_with-found.new.seat.me.0 in
    let step = c.compare_exchange_with-found.ensures.2 in
    let has : HasWord c.self.inside.config c.args.object = has_word c.self.inside _ _ c.self.view_is c.requires.word in
    let here = object_is c.self.inside c.args.object c.word_number-word.result c.self.invariant has c.word_number-word.ensures in
    let alone = own_is c.caller.inside c.caller.invariant in
    let w = c.compare_exchange_with-found.result in
    after_looks v v new c.args.object c.args.op w c.in-Some.place c.in-Some.next c.in-Some.reply alone (no_looks v c.args.object alone)
    (subst (λ o. Meets v o w) here step.meets) (subst (λ o. Made v o c.args.op w new) here (step.hit c.if-found-expected.false))
    (ap (changed c.args.object c.args.op) c.if-found-expected.false ∙ (sym c.change.ensures ∙ c.in-Some.is))

logged : (c : goal.After-append)
    → HasLogged c.caller.inside (later c) (entry c.caller.inside c.args.object c.args.op c.in-Some.place c.in-Some.reply)
unfolding later
logged c = record {
  same = c.append.ensures.same;
  log = c.append.ensures.logged;
  table = c.compare_exchange_with-found.ensures.0;
  slots = c.compare_exchange_with-found.ensures.2.slots;
}

left : (c : goal.After-append) → 0 < c.caller.inside.events.left
left c = rw (ap (λ (d : CallerFace). d.left) c.caller.view_is) c.requires.left

pub invariant_of-caller-2 : goal.invariant_of-caller-2
unfolding later
invariant_of-caller-2 c = seated c.caller.inside (later c) _ _ _ _ c.caller.invariant (left c) (made c) (logged c)

pub returns-clause-answer : goal.returns-clause-answer
unfolding later made after_looks no_looks
returns-clause-answer c =
    let parts = read_parts c.args.object c.args.op c.args.expected c.in-Some.place c.in-Some.next c.in-Some.reply
    (sym c.change.ensures ∙ c.in-Some.is) in record {
      place = c.in-Some.place;
      state = parts.0;
      unpacks = parts.1;
      replies = parts.2;
      happened = subst (λ (d : CallerFace). HappenedAt d c.args.object c.in-Some.place c.args.op c.in-Some.reply (face_of (later c)))
          c.caller.view_is
          (happened c.caller.inside (later c) _ _ _ _ c.caller.invariant (left c) (made c)
          (logged c) c.args.self.now.config c.requires.word);
      met = subst (λ (d : CallerFace). (face_of (later c)).met ≡ d.met) c.caller.view_is
          (unlooked c.caller.inside (later c) _ _ _ _ c.caller.invariant (left c) (made c) (logged c) refl);
    }

pub returns-clause-possible : goal.returns-clause-possible
unfolding later
returns-clause-possible c =
    possible c.caller.inside (later c) _ _ _ _ c.caller.invariant (left c) (made c) (logged c)
    c.args.self.now.config (ap (λ (d : CallerFace). d.about) c.caller.view_is ∙ c.requires.board.1)

pub returns-clause-listed : goal.returns-clause-listed
returns-clause-listed c =
    let log = ap (λ (ps : List Part). (first_of ps).log) (sym c.caller.invariant.parts) in
    subst (λ (d : CallerFace). IsAsListed d c.args.object c.args.op c.in-Some.reply) c.caller.view_is
    (as_listed c.args.self.now.config (face_of c.caller.inside) c.caller.inside.seat.me.0 _ _ _ _ _ c.requires.word (made c) refl log)
