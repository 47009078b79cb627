use Rattle.std.proofs.Common.{◌≡◌, Bool, true, false, Some, [], ◌∷◌, refl, sym, ap, ◌∙◌, subst, arith, List}
use Rattle.std.specs.List.{AllByRecursion, Contains}
use Rattle.atomic_table.specs.Table.{Me, rest}
use Rattle.mv_latch.specs.declared.request.Request.{Request}
use Rattle.mv_latch.specs.Latch.{confirm_reply, is_settled}
use Rattle.mv_latch.specs.LatchSet.{list_of}
use Rattle.mv_config.specs.Setup.{Setup}
use Rattle.mv_machine.specs.System.{latches_of}
use Rattle.mv_board.specs.declared.caller.Caller.TheInside.{Inside}
use Rattle.mv_board.specs.declared.item.Item.{Item}
use Rattle.mv_board.specs.declared.item.Item.TheVariants.{Held}
use Rattle.mv_board.specs.declared.view.Part.{Part}
use Rattle.mv_board.specs.declared.view.View.{View}
use Rattle.mv_board.specs.declared.watch.Watch.{Watch}
use Rattle.mv_board.specs.declared.watch.Watch.TheVariants as watch
use Rattle.mv_board.specs.Faces.{BoardFace, CallerFace, MayWatch}
use Rattle.mv_board.specs.Caller.{face_of}
use Rattle.mv_board.specs.Turn.{named_by}
use Rattle.mv_machine.specs.Kept.{HasMade}
use Rattle.mv_board.specs.View.{own, first_of, listed, with_turn, with_returned}
use Rattle.mv_board.proofs.Boards.{same_table}
use Rattle.mv_board.proofs.LatchEvents.{held_again}
use Rattle.mv_board.proofs.Peeking.{peeked_in, seated_again}
use Rattle.mv_board.proofs.TurnKeeps.{returns as gives_back}
use Rattle.mv_board.proofs.board.Board.peek_latch.Given.{Over}
use Rattle.mv_board.proofs.board.Board.peek_latch.Goals.{After-is_settled}
use Rattle.mv_board.proofs.board.Board.peek_latch.Goals as goal

pub confirm-reply-requires : goal.confirm-reply-requires
confirm-reply-requires g c =
    let log : (face_of c.caller.inside).log ≡ (own c.caller.inside.seat.me.0).log = ap (λ (ps : List Part). (first_of ps).log)
    (sym c.caller.invariant.parts) in
    c.take-lists.ensures.meets.made c.args.latch c.args.id
    (subst (HasMade c.args.latch c.args.id) (ap (λ (d : CallerFace). d.log) (sym c.caller.view_is) ∙ log) c.requires.own)

pub compare_exchange_with-requires : goal.compare_exchange_with-requires
compare_exchange_with-requires g c =
    let l = c.take-lists.result in
    let now = held_again c.take-lists.new.seat.me c.exchange.new.seat.me c.caller.inside.seat.me.0
    (named_by l) l c.take-lists.ensures.took c.exchange.ensures.3 in
    let config = ap (λ (b : BoardFace). b.config) c.self.view_is in
    let about = ap (λ (d : CallerFace). d.about) c.caller.view_is ∙ (c.requires.board.1 ∙ ap (λ s. s ∷ []) (sym config)) in
    let own : MayWatch c.self.inside.config (face_of c.caller.inside) (watch.Latch c.args.latch c.args.id) =
    subst (λ (z : Setup × CallerFace). MayWatch z.0 z.1 (watch.Latch c.args.latch c.args.id))
    (λ i. (sym config i, sym c.caller.view_is i)) c.requires.own in
    let set = subst (AllByRecursion (λ (s : Setup). l.latches ≡ latches_of s l.latches.lists)) about c.take-lists.ensures.meets.set in (
      c.exchange.ensures.0 ∙ (c.take-lists.ensures.same ∙ same_table c.self.inside c.caller.inside _ _ c.self.view_is c.caller.view_is
          c.requires.board),
      (let wide = c.self.invariant.words in omega arith),
      rw c.self.invariant.key (gives_back c.self.inside.config _ _ _ _ []
          (ap (λ (m : Me Item View). m.0.parts) now ∙ c.caller.invariant.parts)
          c.args.latch c.args.id (named_by l) l [] (ap (λ (m : Me Item View). m.0.turn) now) (ap (λ (m : Me Item View). m.1) now)
          (let slots = c.self.invariant.slots in omega arith) own refl set.0),
    )

-- the caller after it
later : (g : Over) → After-is_settled g → Inside
later g c = record c.caller.inside { seat = c.compare_exchange_with.new.seat }

now : (g : Over) (c : After-is_settled g)
    → c.exchange.new.seat.me ≡ (with_turn (named_by c.take-lists.result ∷ []) c.caller.inside.seat.me.0, (0, Held c.take-lists.result) ∷ [])
now g c = held_again c.take-lists.new.seat.me c.exchange.new.seat.me c.caller.inside.seat.me.0 _ _ c.take-lists.ensures.took
    c.exchange.ensures.3

view : (g : Over) (c : After-is_settled g) → c.compare_exchange_with.new.seat.me.0 ≡ with_turn []
    (with_returned c.take-lists.result.latches.lists
    (listed (is_settled (confirm_reply (own c.caller.inside.seat.me.0).caller c.args.id
    (list_of c.take-lists.result.latches.lists c.args.latch)))
    (Some (watch.Latch c.args.latch c.args.id)) c.caller.inside.seat.me.0))
view g c =
    let t = named_by c.take-lists.result in
    c.compare_exchange_with.ensures.2.view c.args.latch c.args.id t refl (ap (λ (m : Me Item View). m.0.turn) (now g c))
    ∙ ap (λ (m : Me Item View). with_turn []
    (with_returned t.lists (listed (is_settled (confirm_reply (own m.0).caller c.args.id (list_of t.lists c.args.latch)))
    (Some (watch.Latch c.args.latch c.args.id)) m.0))) (now g c)
    ∙ still _ _ _
  where
    still : (b : Bool) (w : Watch) (lists : List (List Request))
        → with_turn [] (with_returned lists (listed b (Some w) (with_turn (named_by c.take-lists.result ∷ []) c.caller.inside.seat.me.0)))
        ≡ with_turn [] (with_returned lists (listed b (Some w) c.caller.inside.seat.me.0))
    still true w lists = refl
    still false w lists = refl

slots : (g : Over) (c : After-is_settled g) → c.compare_exchange_with.new.seat.me.1 ≡ []
slots g c = c.compare_exchange_with.ensures.2.slots ∙ ap (λ (m : Me Item View). rest m.1) (now g c)

table : (g : Over) (c : After-is_settled g) → c.compare_exchange_with.new.seat.table_id ≡ c.caller.inside.seat.table_id
table g c = c.compare_exchange_with.ensures.0 ∙ (c.exchange.ensures.0 ∙ c.take-lists.ensures.same)

answer : (g : Over) (c : After-is_settled g) → c.is_settled.result ≡ is_settled
    (confirm_reply c.caller.inside.events.caller c.args.id (list_of c.take-lists.result.latches.lists c.args.latch))
answer g c = c.is_settled.ensures ∙ ap is_settled c.confirm-reply.ensures

pub invariant_of-caller : goal.invariant_of-caller
unfolding later
invariant_of-caller g c = seated_again c.caller.inside (later g c) _ _ c.take-lists.result _ c.caller.invariant refl (table g c)
    (slots g c) (answer g c) (view g c)

pub returns-clause-look : goal.returns-clause-look
unfolding later
returns-clause-look g c =
    rw (← c.caller.view_is) (peeked_in c.caller.inside (later g c) _ _ c.take-lists.result _ c.caller.invariant refl (table g c)
    (slots g c) (answer g c) (view g c))

pub returns-clause-stays : goal.returns-clause-stays
returns-clause-stays g c = λ listed.
    answer g c
    ∙ (ap (λ (ps : List Part). is_settled
    (confirm_reply (first_of ps).caller c.args.id (list_of c.take-lists.result.latches.lists c.args.latch)))
    (sym c.caller.invariant.parts)
    ∙ c.take-lists.ensures.meets.ready c.args.latch c.args.id
    (subst (λ (d : CallerFace). Contains d.ready (watch.Latch c.args.latch c.args.id)) (sym c.caller.view_is) listed))
