use Rattle.std.proofs.Common.{vec_capacity, ◌≡◌, ◌<◌, ◌+◌, true, [], ◌∷◌, List, refl, sym, ap, ◌∙◌, subst, arith}
use Rattle.atomic_table.specs.Table.{Me, rest}
use Rattle.mv_latch.specs.declared.operation.LatchReply.{LatchReply}
use Rattle.mv_latch.specs.declared.request.Request.{Request}
use Rattle.mv_latch.specs.LatchSet.{latch_step, wakes}
use Rattle.mv_machine.specs.declared.entry.Object.TheVariants.{Latches}
use Rattle.mv_machine.specs.declared.entry.Op.TheVariants as op_on
use Rattle.mv_machine.specs.declared.entry.Reply.TheVariants as reply_of
use Rattle.mv_machine.specs.Kept.{allowed}
use Rattle.mv_board.specs.declared.caller.Caller.TheInside.{Inside}
use Rattle.mv_board.specs.declared.caller.Events.{Events}
use Rattle.mv_board.specs.declared.item.Item.{Item}
use Rattle.mv_board.specs.declared.item.Item.TheVariants.{Held}
use Rattle.mv_board.specs.declared.item.Lists.{Lists}
use Rattle.mv_board.specs.declared.view.View.{View}
use Rattle.mv_board.specs.Caller.{face_of}
use Rattle.mv_board.specs.Faces.{BoardFace, CallerFace, HappenedAt, IsAsListed}
use Rattle.mv_board.specs.Turn.{latch_entry, named_by}
use Rattle.mv_board.specs.View.{own, logged, with_turn}
use Rattle.mv_board.proofs.Boards.{same_table}
use Rattle.mv_board.proofs.Logging.{HasAppended, entry}
use Rattle.mv_board.proofs.LatchEvents.{admits_here, held_again, lists_after, happened, seated, possible, as_listed}
use Rattle.mv_board.proofs.TurnKeeps.{gives}
use Rattle.mv_board.proofs.board.Board.latch_event.Given.{Over}
use Rattle.mv_board.proofs.board.Board.latch_event.Goals.{After-append}
use Rattle.mv_board.proofs.board.Board.latch_event.Goals as goal

pub apply_admitted-reply-requires-clause-admitted : goal.apply_admitted-reply-requires-clause-admitted
apply_admitted-reply-requires-clause-admitted g c =
    admits_here c.caller.inside c.args.caller.now c.args.self.now.config c.args.op c.take-place.result c.caller.invariant
    c.caller.view_is c.requires.board.1 c.take-place.ensures.meets c.requires.admitted

pub compare_exchange_with-requires : goal.compare_exchange_with-requires
compare_exchange_with-requires g c =
    let t = named_by c.take-place.result in
    let l : Lists = record { place = c.take-place.result.place + 1; latches = c.apply_admitted-reply.new.self } in
    let now = held_again c.take-place.new.seat.me c.exchange.new.seat.me c.caller.inside.seat.me.0 t l c.take-place.ensures.took
    c.exchange.ensures.3 in
    let left : 0 < c.caller.inside.events.left = rw (ap (λ (d : CallerFace). d.left) c.caller.view_is) c.requires.left in
    let config = ap (λ (b : BoardFace). b.config) c.self.view_is in
    let about = ap (λ (d : CallerFace). d.about) c.caller.view_is ∙ (c.requires.board.1 ∙ ap (λ s. s ∷ []) (sym config)) in
    let may : allowed c.self.inside.config c.caller.inside.events.caller c.caller.inside.events.log.entries Latches (op_on.Latch c.args.op)
    ≡ true =
    (λ i. allowed (config i) (c.caller.view_is i).number (c.caller.view_is i).log Latches (op_on.Latch c.args.op))
    ∙ c.requires.admitted in (
      c.exchange.ensures.0 ∙ (c.take-place.ensures.same ∙ same_table c.self.inside c.caller.inside _ _ c.self.view_is c.caller.view_is
          c.requires.board),
      (let wide = c.self.invariant.words in omega arith),
      rw c.self.invariant.key (gives c.self.inside.config _ _ _ _ [] (ap (λ (m : Me Item View). m.0.parts) now ∙ c.caller.invariant.parts)
          c.args.op t l [] (ap (λ (m : Me Item View). m.0.turn) now) (ap (λ (m : Me Item View). m.1) now)
          (let slots = c.self.invariant.slots in omega arith) left may refl
          (lists_after c.self.inside.config c.caller.inside.seat.me.0 c.take-place.result c.apply_admitted-reply.new.self c.caller.inside.events.caller
          c.args.op c.apply_admitted-reply.result
          c.take-place.ensures.meets about c.apply_admitted-reply.ensures.quotas c.apply_admitted-reply.ensures.step)),
    )

-- the event, and the caller after it
later : (g : Over) → After-append g → Inside
later g c = record c.caller.inside { events = c.append.new.self; seat = c.compare_exchange_with.new.seat }

now : (g : Over) (c : After-append g) → c.exchange.new.seat.me ≡ (
  with_turn (named_by c.take-place.result ∷ []) c.caller.inside.seat.me.0,
  (0, Held record { place = c.take-place.result.place + 1; latches = c.apply_admitted-reply.new.self }) ∷ [],
)
now g c = held_again c.take-place.new.seat.me c.exchange.new.seat.me c.caller.inside.seat.me.0 _ _ c.take-place.ensures.took
    c.exchange.ensures.3

view : (g : Over) (c : After-append g) → c.compare_exchange_with.new.seat.me.0 ≡ with_turn []
    (logged (latch_entry c.caller.inside.seat.me.0 c.args.op (named_by c.take-place.result))
    (wakes (own c.caller.inside.seat.me.0).caller c.args.op c.take-place.result.latches.lists ∷ []) c.caller.inside.seat.me.0)
view g c =
    let t = named_by c.take-place.result in
    c.compare_exchange_with.ensures.2.view c.args.op t refl (ap (λ (m : Me Item View). m.0.turn) (now g c))
    ∙ ap (λ (m : Me Item View). with_turn [] (logged (latch_entry m.0 c.args.op t) (wakes (own m.0).caller c.args.op t.lists ∷ []) m.0))
    (now g c)

appended : (g : Over) (c : After-append g) → HasAppended c.caller.inside (later g c)
    (entry c.caller.inside Latches (op_on.Latch c.args.op) c.take-place.result.place (reply_of.Latch c.apply_admitted-reply.result))
unfolding later
appended g c = record {
  caller = ap (λ (x : Events). x.caller) c.append.ensures.same;
  left = ap (λ (x : Events). x.left) c.append.ensures.same;
  log = c.append.ensures.logged;
  room = ap (λ (x : Events). vec_capacity x.wakes) c.append.ensures.same ∙ c.apply_admitted-reply.ensures.capacity;
  table = c.compare_exchange_with.ensures.0 ∙ (c.exchange.ensures.0 ∙ c.take-place.ensures.same);
  slots = c.compare_exchange_with.ensures.2.slots ∙ ap (λ (m : Me Item View). rest m.1) (now g c);
}

showed : (g : Over) (c : After-append g) → (later g c).events.wakes.items ≡ wakes c.caller.inside.events.caller c.args.op
    c.take-place.result.latches.lists
unfolding later
showed g c = ap (λ (x : Events). x.wakes.items) c.append.ensures.same ∙ c.apply_admitted-reply.ensures.wakes

left : (g : Over) (c : After-append g) → 0 < c.caller.inside.events.left
left g c = rw (ap (λ (d : CallerFace). d.left) c.caller.view_is) c.requires.left

answer : (g : Over) (c : After-append g) → c.apply_admitted-reply.result ≡
    (latch_step c.caller.inside.events.caller c.take-place.result.place c.args.op c.take-place.result.latches.lists).1
answer g c = ap (λ (z : List (List Request) × LatchReply). z.1) c.apply_admitted-reply.ensures.step

after : (g : Over) (c : After-append g) → HappenedAt (face_of c.caller.inside) Latches c.take-place.result.place (op_on.Latch c.args.op)
    (reply_of.Latch c.apply_admitted-reply.result) (face_of (later g c))
unfolding later
after g c =
    happened c.caller.inside (later g c) _ _ _ c.caller.invariant (left g c) c.take-place.ensures.meets
    (view g c) c.compare_exchange_with.ensures.2.possible (answer g c) (appended g c) (showed g c)

pub invariant_of-caller : goal.invariant_of-caller
unfolding later
invariant_of-caller g c =
    seated c.caller.inside (later g c) _ _ _ c.caller.invariant (left g c) c.take-place.ensures.meets
    (view g c) c.compare_exchange_with.ensures.2.possible (answer g c) (appended g c) (showed g c)

pub returns-clause-event : goal.returns-clause-event
unfolding later
returns-clause-event g c = (
  c.take-place.result.place,
  subst (λ (d : CallerFace). HappenedAt d Latches c.take-place.result.place (op_on.Latch c.args.op) (reply_of.Latch c.apply_admitted-reply.result)
      (face_of (later g c))) c.caller.view_is (after g c),
)

pub returns-clause-possible : goal.returns-clause-possible
unfolding later
returns-clause-possible g c =
    possible c.caller.inside (later g c) _ _ _ c.caller.invariant (left g c) c.take-place.ensures.meets
    (view g c) c.compare_exchange_with.ensures.2.possible (answer g c) (appended g c) (showed g c)
    c.args.self.now.config (ap (λ (d : CallerFace). d.about) c.caller.view_is ∙ c.requires.board.1)

pub returns-clause-listed : goal.returns-clause-listed
unfolding later
returns-clause-listed g c =
    subst (λ (d : CallerFace). IsAsListed d Latches (op_on.Latch c.args.op) (reply_of.Latch c.apply_admitted-reply.result)) c.caller.view_is
    (as_listed c.caller.inside (later g c) _ _ _ c.caller.invariant (left g c) c.take-place.ensures.meets
    (view g c) c.compare_exchange_with.ensures.2.possible (answer g c) (appended g c) (showed g c))
