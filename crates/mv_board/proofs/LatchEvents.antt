-- What an event on the latch set makes of a caller.
use Rattle.std.proofs.Common.{◌≡◌, ◌<◌, ℕ, true, List, [], ◌∷◌, ◌++◌, refl, sym, ap, ◌∙◌, subst}
use Rattle.std.proofs.lemmas.List.{append-nil}
use Rattle.std.specs.List.{AllByRecursion}
use Rattle.atomic_table.specs.Table.{Me, rest}
use Rattle.mv_latch.specs.declared.operation.LatchOp.{LatchOp}
use Rattle.mv_latch.specs.declared.operation.LatchOp.TheVariants.{Obtain, Confirm, Release, Purge}
use Rattle.mv_latch.specs.declared.operation.LatchReply.{LatchReply}
use Rattle.mv_latch.specs.declared.operation.Wake.{Wake}
use Rattle.mv_latch.specs.declared.request.Request.{Request}
use Rattle.mv_latch.specs.LatchSet.{LatchLists, latch_admitted, latch_step, wakes}
use Rattle.mv_machine.specs.declared.entry.Object.TheVariants.{Latches}
use Rattle.mv_machine.specs.declared.entry.Op.TheVariants as op_on
use Rattle.mv_machine.specs.declared.entry.Reply.TheVariants as reply_of
use Rattle.mv_machine.specs.Kept.{allowed}
use Rattle.mv_machine.specs.Parts.{IsPossible}
use Rattle.mv_config.specs.Setup.{Setup}
use Rattle.mv_machine.specs.System.{latches_of}
use Rattle.mv_board.specs.declared.caller.Caller.TheInside.{Inside}
use Rattle.mv_board.specs.declared.item.Item.{Item}
use Rattle.mv_board.specs.declared.item.Item.TheVariants.{Held, Away}
use Rattle.mv_board.specs.declared.item.Lists.{Lists}
use Rattle.mv_board.specs.declared.view.Named.{Named}
use Rattle.mv_board.specs.declared.view.Part.{Part}
use Rattle.mv_board.specs.declared.view.View.{View}
use Rattle.mv_board.specs.Caller.{face_of, IsSeated}
use Rattle.mv_board.specs.Faces.{CallerFace, HappenedAt, IsAsListed, last_of}
use Rattle.mv_board.specs.Steps.{PossibleFor, entry_of}
use Rattle.mv_latch.specs.Latch.{is_settled}
use Rattle.mv_board.specs.Turn.{MeetsLists, latch_entry, named_by}
use Rattle.mv_board.specs.View.{own, first_of, with_own, part_logged, logged, with_turn}
use Rattle.mv_board.proofs.Logging.{HasAppended, Grew, entry, own_is}
use Rattle.mv_board.proofs.Logging as logging

-- ---- the lists that were taken

-- the lists in the slot again, while the seat still names those that it took
pub held_again : (taken back : Me Item View) (v : View) (t : Named) (l : Lists) → taken ≡ (with_turn (t ∷ []) v, (0, Away) ∷ [])
    → back ≡ (taken.0, (0, Held l) ∷ rest taken.1)
    → back ≡ (with_turn (t ∷ []) v, (0, Held l) ∷ [])
held_again taken back v t l is held = held ∙ ap (λ (m : Me Item View). (m.0, (0, Held l) ∷ rest m.1)) is

-- they admit what the caller's own entries allow
pub admits_here : (c : Inside) (f : CallerFace) (b : Setup) (op : LatchOp) (l : Lists) → IsSeated c → face_of c ≡ f → f.about ≡ b ∷ []
    → MeetsLists c.seat.me.0 l
    → allowed b f.number f.log Latches (op_on.Latch op) ≡ true → latch_admitted c.events.caller op l.latches ≡ true
admits_here c f b op l h is about m may =
    let all = subst (λ (z : List Part × List Setup). AllByRecursion (λ s. (x : LatchOp)
    → allowed s (first_of z.0).caller (first_of z.0).log Latches (op_on.Latch x) ≡ true → latch_admitted (first_of z.0).caller x l.latches
    ≡ true) z.1)
    (λ i. (h.parts i, (ap (λ (x : CallerFace). x.about) is ∙ about) i)) m.admits in
    all.0 op (subst (λ (x : CallerFace). allowed b x.number x.log Latches (op_on.Latch op) ≡ true) (sym is) may)

-- and after an operation they are still the configuration's
pub lists_after : (b : Setup) (v : View) (l : Lists) (new : LatchLists) (k : ℕ) (op : LatchOp) (r : LatchReply) → MeetsLists v l
    → v.about ≡ b ∷ []
    → new ≡ record l.latches { lists = new.lists } → ◌≡◌ {A = List (List Request) × LatchReply} (new.lists, r)
    (latch_step k l.place op l.latches.lists)
    → new ≡ latches_of b (latch_step k l.place op l.latches.lists).0
lists_after b v l new k op r m about kept step =
    let set = subst (AllByRecursion (λ s. l.latches ≡ latches_of s l.latches.lists)) about m.set in
    kept ∙ (ap (λ (z : LatchLists). record z { lists = new.lists }) set.0
    ∙ ap (λ (z : List (List Request) × LatchReply). latches_of b z.0) step)

-- a listed request no longer waits in the lists that were taken
listed_in : (f : CallerFace) (op : LatchOp) (v : View) (l : Lists) (r : LatchReply) → MeetsLists v l → f.ready ≡ v.ready
    → r ≡ (latch_step (own v).caller l.place op l.latches.lists).1
    → IsAsListed f Latches (op_on.Latch op) (reply_of.Latch r)
listed_in f (Confirm latch id) v l r m ready is = rw ready (λ there. ap is_settled is ∙ m.ready latch id there)
listed_in f (Obtain latch requestor mode form) v l r m ready is = tt
listed_in f (Release latch id conditional) v l r m ready is = tt
listed_in f (Purge requestor) v l r m ready is = tt

-- the last of some wakes
last_pushed : (xs : List (List Wake)) (ws : List Wake) → last_of (xs ++ ws ∷ []) ≡ ws
last_pushed [] ws = refl
last_pushed (x ∷ []) ws = refl
last_pushed (x ∷ y ∷ xs) ws = last_pushed (y ∷ xs) ws

-- ---- the event

-- the view behind it
grew : (v new : View) (k : ℕ) (op : LatchOp) (l : Lists) (r : LatchReply) → v.parts ≡ own v ∷ [] → (own v).caller ≡ k → MeetsLists v l
    → new ≡ with_turn [] (logged (latch_entry v op (named_by l)) (wakes (own v).caller op l.latches.lists ∷ []) v) → PossibleFor new
    → r ≡ (latch_step k l.place op l.latches.lists).1
    → Grew v Latches (op_on.Latch op) l.place (reply_of.Latch r) (wakes k op l.latches.lists ∷ []) new
grew v new k op l r alone mine meets view may answer =
    let lists = l.latches.lists in
    let said : (latch_step (own v).caller l.place op lists).1 ≡ r = ap (λ z. (latch_step z l.place op lists).1) mine ∙ sym answer in
    record {
      above = meets.above;
      more = [];
      parts = ap (λ (u : View). u.parts) view
          ∙ (ap (with_own (part_logged (latch_entry v op (named_by l)) (wakes (own v).caller op lists ∷ []))) alone
          ∙ (λ i. part_logged (entry_of v Latches (op_on.Latch op) l.place (reply_of.Latch (said i))) (wakes (mine i) op lists ∷ [])
          (record (own v) { sights = sym (append-nil (own v).sights) i }) ∷ []));
      about = ap (λ (u : View). u.about) view;
      turn = ap (λ (u : View). u.turn) view;
      returned = ap (λ (u : View). u.returned) view;
      ready = ap (λ (u : View). u.ready) view;
      possible = may;
    }

module _ (c d : Inside) (op : LatchOp) (l : Lists) (r : LatchReply) (h : IsSeated c) (left : 0 < c.events.left)
    (meets : MeetsLists c.seat.me.0 l)
    (view : d.seat.me.0 ≡ with_turn []
    (logged (latch_entry c.seat.me.0 op (named_by l)) (wakes (own c.seat.me.0).caller op l.latches.lists ∷ []) c.seat.me.0))
    (may : PossibleFor d.seat.me.0) (answer : r ≡ (latch_step c.events.caller l.place op l.latches.lists).1)
    (appended : HasAppended c d (entry c Latches (op_on.Latch op) l.place (reply_of.Latch r)))
    (showed : d.events.wakes.items ≡ wakes c.events.caller op l.latches.lists) where
  shown : List Wake
  shown = wakes c.events.caller op l.latches.lists

  behind : Grew c.seat.me.0 Latches (op_on.Latch op) l.place (reply_of.Latch r) (shown ∷ []) d.seat.me.0
  unfolding shown
  behind = grew c.seat.me.0 d.seat.me.0 c.events.caller op l r (own_is c h) (ap (λ ps. (first_of ps).caller) h.parts) meets view may answer

  met_nothing : (own c.seat.me.0).sights ++ behind.more ≡ (own c.seat.me.0).sights
  unfolding behind grew
  met_nothing = append-nil (own c.seat.me.0).sights

  pub happened : HappenedAt (face_of c) Latches l.place (op_on.Latch op) (reply_of.Latch r) (face_of d)
  unfolding shown
  happened = logging.happened c d Latches (op_on.Latch op) l.place (reply_of.Latch r) (shown ∷ []) h left behind appended
      (logging.told_after c d Latches (op_on.Latch op) l.place (reply_of.Latch r) (shown ∷ []) h left behind appended
      ∙ ap (λ ws. (own c.seat.me.0).told ++ ws ∷ []) (sym showed))
      (logging.met_after c d Latches (op_on.Latch op) l.place (reply_of.Latch r) (shown ∷ []) h left behind appended ∙ met_nothing)

  pub seated : IsSeated d
  unfolding shown
  seated = logging.seated c d Latches (op_on.Latch op) l.place (reply_of.Latch r) (shown ∷ []) h left behind appended
      (showed ∙ sym (last_pushed (own c.seat.me.0).told shown))

  pub possible : (b : Setup) → c.seat.me.0.about ≡ b ∷ [] → IsPossible b d.events.caller d.events.log.entries (own d.seat.me.0).told
  possible = logging.possible c d Latches (op_on.Latch op) l.place (reply_of.Latch r) (shown ∷ []) h left behind appended

  pub as_listed : IsAsListed (face_of c) Latches (op_on.Latch op) (reply_of.Latch r)
  as_listed = listed_in (face_of c) op c.seat.me.0 l r meets refl
      (answer ∙ ap (λ (ps : List Part). (latch_step (first_of ps).caller l.place op l.latches.lists).1) (sym h.parts))
