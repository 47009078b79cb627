-- What an event on an object's word makes of a caller.
use Rattle.std.proofs.Common.{◌≡◌, ◌<◌, ℕ, ◌-◌, List, [], ◌∷◌, ◌++◌, length, vec_capacity, sym, ap, ◌∙◌, subst}
use Rattle.std.proofs.lemmas.List.{append-nil}
use Rattle.mv_machine.specs.declared.entry.Entry.{Entry}
use Rattle.mv_machine.specs.declared.entry.Object.{Object}
use Rattle.mv_machine.specs.declared.entry.Object.TheVariants.{Ecb, Element, Volume, Latches}
use Rattle.mv_machine.specs.declared.entry.Op.{Op}
use Rattle.mv_machine.specs.declared.entry.Reply.{Reply}
use Rattle.mv_machine.specs.Log.{with_entry}
use Rattle.mv_machine.specs.Parts.{IsPossible}
use Rattle.mv_config.specs.Setup.{Setup}
use Rattle.mv_board.specs.declared.caller.Caller.TheInside.{Inside}
use Rattle.mv_board.specs.declared.caller.Events.{Events}
use Rattle.mv_board.specs.declared.view.Part.{Part}
use Rattle.mv_board.specs.declared.view.Sight.{Sight}
use Rattle.mv_board.specs.declared.view.View.{View}
use Rattle.mv_board.specs.Caller.{face_of, IsSeated}
use Rattle.mv_board.specs.Faces.{CallerFace, HappenedAt, Shows, LooksAt, last_of}
use Rattle.mv_board.specs.Steps.{AreAt, MadeAfterLooks, entry_of}
use Rattle.mv_board.specs.View.{own, first_of, with_own, part_logged, off}
use Rattle.mv_board.specs.Words.{HasWord}
use Rattle.mv_board.proofs.Logging.{HasAppended, Grew, entry, own_is, seeing}
use Rattle.mv_board.proofs.Logging as logging

-- the view behind looks and the event
grew : (v new : View) (o : Object) (op : Op) (place : ℕ) (reply : Reply) → v.parts ≡ own v ∷ [] → v.turn ≡ []
    → MadeAfterLooks v o op place reply new → Grew v o op place reply [] new
grew v new o op place reply alone free made = record {
  above = made.above;
  more = made.looks.more;
  parts = ap (λ (u : View). u.parts) made.view
      ∙ (ap (λ (u : View). with_own (part_logged (entry_of v o op place reply) []) u.parts) made.looks.view
      ∙ ap (λ ps. with_own (part_logged (entry_of v o op place reply) []) (with_own (seeing made.looks.more) ps)) alone);
  about = ap (λ (u : View). u.about) made.view ∙ ap (λ (u : View). u.about) made.looks.view;
  turn = ap (λ (u : View). u.turn) made.view ∙ (ap (λ (u : View). u.turn) made.looks.view ∙ free);
  returned = ap (λ (u : View). u.returned) made.view ∙ ap (λ (u : View). u.returned) made.looks.view;
  ready = ap (λ (u : View). u.ready) made.view ∙ ap (λ (u : View). off o op u.ready) made.looks.view;
  possible = made.possible;
}

-- it shows nothing
shows_nothing : (k : Setup) (o : Object) (c d : CallerFace) → HasWord k o → d.told ≡ c.told → d.wakes ≡ c.wakes → Shows o c d
shows_nothing k (Ecb n) c d has told wakes = (told, wakes)
shows_nothing k (Element n) c d has told wakes = (told, wakes)
shows_nothing k (Volume n) c d has told wakes = (told, wakes)
shows_nothing k Latches c d has told wakes = absurd has

-- and meets words of its own object alone
looks_at : (k : Setup) (o : Object) (c d : CallerFace) (more : List Sight) → HasWord k o → d.met ≡ c.met ++ more
    → AreAt o (length c.log) more → LooksAt o c d
looks_at k (Ecb n) c d more has met there = (more, met, there)
looks_at k (Element n) c d more has met there = (more, met, there)
looks_at k (Volume n) c d more has met there = (more, met, there)
looks_at k Latches c d more has met there = absurd has

-- a caller with the event appended, and its wakes as they were
pub record HasLogged (c d : Inside) (e : Entry) : Type 0 where
  pub same : d.events ≡ record c.events { left = c.events.left - 1; log = d.events.log }
  pub log : d.events.log ≡ with_entry c.events.log e
  pub table : d.seat.table_id ≡ c.seat.table_id
  pub slots : d.seat.me.1 ≡ c.seat.me.1

module _ (c d : Inside) (o : Object) (op : Op) (place : ℕ) (reply : Reply) (h : IsSeated c) (left : 0 < c.events.left)
    (made : MadeAfterLooks c.seat.me.0 o op place reply d.seat.me.0) (log : HasLogged c d (entry c o op place reply)) where
  behind : Grew c.seat.me.0 o op place reply [] d.seat.me.0
  behind = grew c.seat.me.0 d.seat.me.0 o op place reply (own_is c h) h.turn made

  appended : HasAppended c d (entry c o op place reply)
  appended = record {
    caller = ap (λ (x : Events). x.caller) log.same;
    left = ap (λ (x : Events). x.left) log.same;
    log = log.log;
    room = ap (λ (x : Events). vec_capacity x.wakes) log.same;
    table = log.table;
    slots = log.slots ∙ h.empty;
  }

  told_kept : (own d.seat.me.0).told ≡ (own c.seat.me.0).told
  told_kept = logging.told_after c d o op place reply [] h left behind appended ∙ append-nil (own c.seat.me.0).told

  wakes_kept : d.events.wakes.items ≡ c.events.wakes.items
  wakes_kept = ap (λ (x : Events). x.wakes.items) log.same

  met_after : (own d.seat.me.0).sights ≡ (own c.seat.me.0).sights ++ made.looks.more
  unfolding behind grew
  met_after = logging.met_after c d o op place reply [] h left behind appended

  -- without a look nothing is met
  pub unlooked : made.looks.more ≡ [] → (own d.seat.me.0).sights ≡ (own c.seat.me.0).sights
  unlooked none = met_after ∙ (ap (λ more. (own c.seat.me.0).sights ++ more) none ∙ append-nil (own c.seat.me.0).sights)

  pub happened : (k : Setup) → HasWord k o → HappenedAt (face_of c) o place op reply (face_of d)
  happened k has =
      logging.happened c d o op place reply [] h left behind appended (shows_nothing k o (face_of c) (face_of d) has told_kept wakes_kept)
      (looks_at k o (face_of c) (face_of d) made.looks.more has met_after
      (subst (λ (ps : List Part). AreAt o (length (first_of ps).log) made.looks.more) h.parts made.looks.there))

  pub seated : IsSeated d
  seated = logging.seated c d o op place reply [] h left behind appended
      (wakes_kept ∙ (h.shown ∙ ap last_of (sym (append-nil (own c.seat.me.0).told))))

  pub possible : (b : Setup) → c.seat.me.0.about ≡ b ∷ [] → IsPossible b d.events.caller d.events.log.entries (own d.seat.me.0).told
  possible = logging.possible c d o op place reply [] h left behind appended
