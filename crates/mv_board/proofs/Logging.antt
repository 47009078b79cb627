-- What a look and an event make of a caller.
use Rattle.std.proofs.Common.{◌≡◌, ◌≤◌, ◌<◌, ℕ, ◌-◌, ◌*◌, List, [], ◌∷◌, ◌++◌, vec_capacity, sym, ap, ◌∙◌, subst, arith}
use Rattle.std.specs.List.{AllByRecursion}
use Rattle.mv_latch.specs.declared.operation.Wake.{Wake}
use Rattle.mv_machine.specs.declared.entry.Entry.{Entry}
use Rattle.mv_machine.specs.declared.entry.Object.{Object}
use Rattle.mv_machine.specs.declared.entry.Op.{Op}
use Rattle.mv_machine.specs.declared.entry.Reply.{Reply}
use Rattle.mv_machine.specs.Log.{OpenLogFace, with_entry}
use Rattle.mv_machine.specs.Parts.{IsBelow, IsPossible}
use Rattle.mv_config.specs.Setup.{Setup}
use Rattle.mv_board.specs.declared.caller.Caller.TheInside.{Inside}
use Rattle.mv_board.specs.declared.view.Part.{Part}
use Rattle.mv_board.specs.declared.view.Sight.{Sight}
use Rattle.mv_board.specs.declared.view.View.{View}
use Rattle.mv_board.specs.declared.watch.Watch.{Watch}
use Rattle.mv_board.specs.Caller.{face_of, IsSeated}
use Rattle.mv_board.specs.Faces.{HappenedAt, Found, Missed, Shows, LooksAt, last_of, part_of}
use Rattle.mv_board.specs.Steps.{Meets, PossibleFor, entry_of}
use Rattle.mv_board.specs.View.{own, first_of, with_own, part_met, part_logged, met, off}

-- ---- the own part of a caller's view

-- which met more
abbrev pub seeing : List Sight → Part → Part
seeing more p = record p { sights = p.sights ++ more }

pub own_is : (c : Inside) → IsSeated c → c.seat.me.0.parts ≡ own c.seat.me.0 ∷ []
own_is c h = h.parts ∙ ap (λ p. p ∷ []) (sym (ap first_of h.parts))

pub own_left : (c : Inside) → IsSeated c → (own c.seat.me.0).left ≡ c.events.left
own_left c h = ap (λ ps. (first_of ps).left) h.parts

-- ---- a look

-- a word was found, and what is ready may be listed
unfoldable pub found_with : (c d : Inside) (o : Object) (w : ℕ) (ready : List Watch) → IsSeated c → d ≡ record c { seat = d.seat }
    → d.seat.table_id ≡ c.seat.table_id → Meets c.seat.me.0 o w → d.seat.me.0 ≡ record (met o w c.seat.me.0) { ready = ready }
    → Found (face_of c) o w (face_of d)
found_with c d o w ready h kept table m view = record {
  same = record { table = table; about = ap (λ (u : View). u.about) view; number = ap (λ (x : Inside). x.events.caller) kept };
  place = m.place;
  state = m.state;
  unpacks = m.unpacks;
  above = subst (λ (ps : List Part). IsBelow o m.place (first_of ps).log) h.parts m.above;
  met = ap (λ (u : View). (own u).sights) view ∙ ap (λ ps. (first_of (with_own (part_met o w) ps)).sights) h.parts;
  log = ap (λ (x : Inside). x.events.log.entries) kept;
  left = ap (λ (x : Inside). x.events.left) kept;
  room = ap (λ (x : Inside). x.events.log.room) kept;
  told = ap (λ (u : View). (own u).told) view ∙ ap (λ ps. (first_of (with_own (part_met o w) ps)).told) h.parts;
  wakes = ap (λ (x : Inside). x.events.wakes.items) kept;
  returned = ap (λ (u : View). u.returned) view;
}

-- with nothing listed
pub found : (c d : Inside) (o : Object) (w : ℕ) → IsSeated c → d ≡ record c { seat = d.seat } → d.seat.table_id ≡ c.seat.table_id
    → Meets c.seat.me.0 o w → d.seat.me.0 ≡ met o w c.seat.me.0 → Found (face_of c) o w (face_of d)
found c d o w h kept table m view = found_with c d o w c.seat.me.0.ready h kept table m view

-- by an exchange that expected another
pub missed : (c d : Inside) (o : Object) (expected w : ℕ) → IsSeated c → d ≡ record c { seat = d.seat }
    → d.seat.table_id ≡ c.seat.table_id → Meets c.seat.me.0 o w → d.seat.me.0 ≡ met o w c.seat.me.0
    → (w ≡ expected → ⊥) → Missed (face_of c) o expected (record { 0 = w }) (face_of d)
missed c d o expected w h kept table m view other =
    record { other = other; found = found c d o w h kept table m view; ready = ap (λ (u : View). u.ready) view }

-- ---- an event

-- the entry of a caller's event
abbrev pub entry : Inside → Object → Op → ℕ → Reply → Entry
entry c o op place reply = record { caller = c.events.caller; object = o; place = place; op = op; reply = reply }

-- a caller with one event more, and one less that is left
pub record HasAppended (c d : Inside) (e : Entry) : Type 0 where
  pub caller : d.events.caller ≡ c.events.caller
  pub left : d.events.left ≡ c.events.left - 1
  pub log : d.events.log ≡ with_entry c.events.log e
  pub room : vec_capacity d.events.wakes ≡ vec_capacity c.events.wakes
  pub table : d.seat.table_id ≡ c.seat.table_id
  pub slots : d.seat.me.1 ≡ []

-- A view behind an event of its own caller: what was shown after it, and what was met on the way.
pub record Grew (v : View) (o : Object) (op : Op) (place : ℕ) (reply : Reply) (shown : List (List Wake)) (new : View) : Type 0 where
  pub above : IsBelow o place (own v).log
  pub more : List Sight
  pub parts : new.parts ≡ part_logged (entry_of v o op place reply) shown (seeing more (own v)) ∷ []
  pub about : new.about ≡ v.about
  pub turn : new.turn ≡ []
  pub returned : new.returned ≡ v.returned
  pub ready : new.ready ≡ off o op v.ready
  pub possible : PossibleFor new

module _ (c d : Inside) (o : Object) (op : Op) (place : ℕ) (reply : Reply) (shown : List (List Wake)) (h : IsSeated c)
    (left : 0 < c.events.left)
    (grew : Grew c.seat.me.0 o op place reply shown d.seat.me.0) (more : HasAppended c d (entry c o op place reply)) where
  -- the parts of the view behind it
  parts_after : d.seat.me.0.parts ≡ record {
    caller = c.events.caller;
    left = c.events.left - 1;
    log = c.events.log.entries ++ entry c o op place reply ∷ [];
    told = (own c.seat.me.0).told ++ shown;
    sights = (own c.seat.me.0).sights ++ grew.more;
  } ∷ []
  parts_after =
      grew.parts
      ∙ ap (λ (p : Part). part_logged record { caller = p.caller; object = o; place = place; op = op; reply = reply } shown
      (seeing grew.more p) ∷ [])
      (ap first_of h.parts)

  pub told_after : (own d.seat.me.0).told ≡ (own c.seat.me.0).told ++ shown
  told_after = ap (λ ps. (first_of ps).told) parts_after

  entries_after : d.events.log.entries ≡ c.events.log.entries ++ entry c o op place reply ∷ []
  entries_after = ap (λ (l : OpenLogFace). l.entries) more.log

  room_after : d.events.log.room ≡ c.events.log.room - 1
  room_after = ap (λ (l : OpenLogFace). l.room) more.log

  pub met_after : (own d.seat.me.0).sights ≡ (own c.seat.me.0).sights ++ grew.more
  met_after = ap (λ ps. (first_of ps).sights) parts_after

  pub happened : Shows o (face_of c) (face_of d) → LooksAt o (face_of c) (face_of d) → HappenedAt (face_of c) o place op reply (face_of d)
  happened shows looks = record {
    same = record { table = more.table; about = grew.about; number = more.caller };
    above = subst (λ (ps : List Part). IsBelow o place (first_of ps).log) h.parts grew.above;
    logged = entries_after;
    left = (let less = more.left in omega arith);
    room = (let r = h.room in omega (arith, room_after, left));
    shown = shows;
    met = looks;
    returned = grew.returned;
    ready = grew.ready;
  }

  -- which say of the caller what its events say
  parts_again : d.seat.me.0.parts ≡ part_of (face_of d) ∷ []
  parts_again = parts_after ∙ (λ i. record {
    caller = sym more.caller i;
    left = sym more.left i;
    log = sym entries_after i;
    told = sym told_after i;
    sights = sym met_after i;
  } ∷ [])

  pub seated : d.events.wakes.items ≡ last_of ((own c.seat.me.0).told ++ shown) → IsSeated d
  seated wakes = record {
    empty = more.slots;
    parts = parts_again;
    turn = grew.turn;
    whose = ap (λ (l : OpenLogFace). l.caller) more.log ∙ (h.whose ∙ sym more.caller);
    room = (let r = h.room in let less = more.left in omega (arith, room_after));
    wakes = subst (λ (z : List Setup × ℕ). AllByRecursion (λ (s : Setup). s.callers * s.quota ≤ z.1) z.0)
        (λ i. (sym grew.about i, sym more.room i)) h.wakes;
    shown = wakes ∙ ap last_of (sym told_after);
    exists = subst (λ (z : List Setup × ℕ). AllByRecursion (λ (s : Setup). z.1 < s.callers) z.0)
        (λ i. (sym grew.about i, sym more.caller i)) h.exists;
    few = (let less = more.left in let f = h.few in omega arith);
  }

  pub possible : (b : Setup) → c.seat.me.0.about ≡ b ∷ [] → IsPossible b d.events.caller d.events.log.entries (own d.seat.me.0).told
  possible b about =
      let mine : Part = own d.seat.me.0 in
      let all = subst (AllByRecursion (λ (s : Setup). IsPossible s mine.caller mine.log mine.told)) (grew.about ∙ about) grew.possible in
      subst (λ (ps : List Part). IsPossible b (first_of ps).caller (first_of ps).log mine.told) parts_again all.0
