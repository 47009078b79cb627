-- What a look for what is ready makes of a caller.
use Rattle.std.proofs.Common.{◌<◌, ◌≡◌, ◌≤◌, ℕ, ◌*◌, Bool, true, false, Some, List, [], ◌∷◌, ◌++◌, vec_capacity, refl, sym}
use Rattle.std.proofs.Common.{ap, ◌∙◌, subst}
use Rattle.std.specs.List.{AllByRecursion}
use Rattle.mv_latch.specs.Latch.{confirm_reply, is_settled}
use Rattle.mv_latch.specs.LatchSet.{list_of}
use Rattle.mv_machine.specs.declared.entry.Object.{Object}
use Rattle.mv_machine.specs.declared.entry.Object.TheVariants.{Ecb, Element, Volume, Latches}
use Rattle.mv_machine.specs.Owned.{owner_at}
use Rattle.mv_config.specs.Setup.{Setup}
use Rattle.mv_board.specs.declared.caller.Caller.TheInside.{Inside}
use Rattle.mv_board.specs.declared.item.Lists.{Lists}
use Rattle.mv_board.specs.declared.view.View.{View}
use Rattle.mv_board.specs.declared.watch.Watch.{Watch}
use Rattle.mv_board.specs.declared.watch.Watch.TheVariants as watch
use Rattle.mv_board.specs.Caller.{face_of, IsSeated}
use Rattle.mv_board.specs.Faces.{PeekedAt, PeekedIn, with_watch, last_of}
use Rattle.mv_board.specs.Steps.{Meets, watch_of, is_ready}
use Rattle.mv_board.specs.View.{own, first_of, met, listed, with_turn, with_returned}
use Rattle.mv_board.proofs.Logging.{found_with}

-- an object that has an owner has a watch
pub watched : (c : Setup) (o : Object) (k : ℕ) → owner_at c o ≡ Some k → (w : Watch) × (watch_of o ≡ Some w)
watched c (Ecb n) k is = (watch.Ecb n, refl)
watched c (Element n) k is = (watch.Element n, refl)
watched c (Volume n) k is = absurd (cc is)
watched c Latches k is = absurd (cc is)

-- a watch that was seen ready is listed, and nothing else changes
pub listed_is : (b : Bool) (w : Watch) (v : View) → listed b (Some w) v ≡ record v { ready = with_watch b w v.ready }
listed_is true w v = refl
listed_is false w v = refl

pub peeked : (c d : Inside) (o : Object) (x : ℕ) (w : Watch) (is : Bool) → IsSeated c → d ≡ record c { seat = d.seat }
    → d.seat.table_id ≡ c.seat.table_id
    → (m : Meets c.seat.me.0 o x) → watch_of o ≡ Some w → d.seat.me.0 ≡ listed (is_ready m.state) (watch_of o) (met o x c.seat.me.0)
    → is ≡ is_ready m.state
    → PeekedAt (face_of c) o w is (face_of d)
unfolding found_with
peeked c d o x w is h kept table m watches view answer =
    let v = c.seat.me.0 in
    let ready : List Watch = with_watch is w v.ready in
    let after : d.seat.me.0 ≡ record (met o x v) { ready = ready } =
    view ∙ ((λ i. listed (sym answer i) (watches i) (met o x v)) ∙ listed_is is w (met o x v)) in record {
      word = x;
      found = found_with c d o x ready h kept table m after;
      answer = answer;
      ready = ap (λ (u : View). u.ready) after;
    }

-- ---- the lists of the latch set

module _ (c d : Inside) (latch id : ℕ) (l : Lists) (is : Bool) (h : IsSeated c) (kept : d ≡ record c { seat = d.seat })
    (table : d.seat.table_id ≡ c.seat.table_id)
    (slots : d.seat.me.1 ≡ []) (answer : is ≡ is_settled (confirm_reply c.events.caller id (list_of l.latches.lists latch)))
    (view : d.seat.me.0 ≡ with_turn []
    (with_returned l.latches.lists (listed (is_settled (confirm_reply (own c.seat.me.0).caller id (list_of l.latches.lists latch)))
    (Some (watch.Latch latch id)) c.seat.me.0))) where
  after : d.seat.me.0 ≡ record c.seat.me.0 {
    turn = [];
    returned = c.seat.me.0.returned ++ l.latches.lists ∷ [];
    ready = with_watch is (watch.Latch latch id) c.seat.me.0.ready;
  }
  after =
      let own_too : is ≡ is_settled (confirm_reply (own c.seat.me.0).caller id (list_of l.latches.lists latch)) =
      answer ∙ ap (λ ps. is_settled (confirm_reply (first_of ps).caller id (list_of l.latches.lists latch))) (sym h.parts) in
      view ∙ ap (λ (u : View). with_turn [] (with_returned l.latches.lists u))
      (ap (λ b. listed b (Some (watch.Latch latch id)) c.seat.me.0) (sym own_too) ∙ listed_is is (watch.Latch latch id) c.seat.me.0)

  pub peeked_in : PeekedIn (face_of c) latch id is (face_of d)
  peeked_in = record {
    lists = l.latches.lists;
    answer = answer;
    returned = ap (λ (u : View). u.returned) after;
    ready = ap (λ (u : View). u.ready) after;
    same = record { table = table; about = ap (λ (u : View). u.about) after; number = ap (λ (x : Inside). x.events.caller) kept };
    log = ap (λ (x : Inside). x.events.log.entries) kept;
    left = ap (λ (x : Inside). x.events.left) kept;
    room = ap (λ (x : Inside). x.events.log.room) kept;
    told = ap (λ (u : View). (own u).told) after;
    wakes = ap (λ (x : Inside). x.events.wakes.items) kept;
    met = ap (λ (u : View). (own u).sights) after;
  }

  pub seated_again : IsSeated d
  seated_again =
      let still : IsSeated (record c { seat = d.seat }) = record {
        empty = slots;
        parts = ap (λ (u : View). u.parts) after ∙ (h.parts ∙ (λ i. record {
          caller = c.events.caller;
          left = c.events.left;
          log = c.events.log.entries;
          told = (own (sym after i)).told;
          sights = (own (sym after i)).sights;
        } ∷ []));
        turn = ap (λ (u : View). u.turn) after;
        whose = h.whose;
        room = h.room;
        wakes = subst (AllByRecursion (λ (s : Setup). s.callers * s.quota ≤ vec_capacity c.events.wakes))
            (sym (ap (λ (u : View). u.about) after)) h.wakes;
        shown = h.shown ∙ ap last_of (sym (ap (λ (u : View). (own u).told) after));
        exists = subst (AllByRecursion (λ (s : Setup). c.events.caller < s.callers)) (sym (ap (λ (u : View). u.about) after)) h.exists;
        few = h.few;
      } in
      subst IsSeated (sym kept) still
