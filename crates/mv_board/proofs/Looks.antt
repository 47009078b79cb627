-- What looks leave of a view, and the event after them.
use Rattle.std.proofs.Common.{◌≡◌, ℕ, List, [], ◌∷◌, ◌++◌, length, Some, refl, sym, ap, ◌∙◌, subst, arith, append_assoc}
use Rattle.std.proofs.lemmas.List.{append-nil}
use Rattle.std.specs.List.{Contains}
use Rattle.mv_machine.specs.declared.entry.Object.{Object}
use Rattle.mv_machine.specs.declared.entry.Op.{Op}
use Rattle.mv_machine.specs.declared.entry.Reply.{Reply}
use Rattle.mv_machine.specs.declared.packing.WordState.{WordState}
use Rattle.mv_machine.specs.Parts.{IsBelow}
use Rattle.mv_board.specs.declared.view.Part.{Part}
use Rattle.mv_board.specs.declared.view.Sight.{Sight}
use Rattle.mv_board.specs.declared.view.View.{View}
use Rattle.mv_board.specs.declared.watch.Watch.{Watch}
use Rattle.mv_board.specs.declared.watch.Watch.TheVariants as watch
use Rattle.mv_machine.specs.Parked.{parked}
use Rattle.mv_board.specs.Steps.{Meets, Made, LooksOn, MadeAfterLooks}
use Rattle.mv_board.specs.View.{own, first_of, with_own, part_met, met, logged}
use Rattle.mv_board.specs.Words.{changed}
use Rattle.mv_board.proofs.Changing.{read_parts}
use Rattle.mv_board.proofs.Logging.{seeing}
use Rattle.mv_machine.proofs.Lists.{all_append}

-- ---- looks of a seat that knows its own caller alone

-- at first there are none
unfoldable pub no_looks : (v : View) (o : Object) → v.parts ≡ own v ∷ [] → LooksOn v o v
no_looks v o is =
    let none = append-nil (own v).sights in
    let same : with_own (seeing []) v.parts ≡ v.parts =
    ap (with_own (seeing [])) is ∙ (ap (λ (s : List Sight). record (own v) { sights = s } ∷ []) none ∙ sym is) in
    record { more = []; there = tt; view = ap (λ (ps : List Part). record v { parts = ps }) (sym same) }

-- one more is met
pub look_more : (v w : View) (o : Object) (x : ℕ) → v.parts ≡ own v ∷ [] → LooksOn v o w → LooksOn v o (met o x w)
look_more v w o x is l =
    let s : Sight = record { object = o; word = x; after = length (own v).log } in
    let all : List Sight = l.more ++ s ∷ [] in
    let parts : with_own (part_met o x) (with_own (seeing l.more) v.parts) ≡ with_own (seeing all) v.parts =
    ap (λ ps. with_own (part_met o x) (with_own (seeing l.more) ps)) is
    ∙ (ap (λ (ss : List Sight). record (own v) { sights = ss } ∷ []) (append_assoc (own v).sights l.more (s ∷ []))
    ∙ sym (ap (with_own (seeing all)) is)) in
    record {
      more = all;
      there = all_append (λ y. (y.object ≡ o) × (y.after ≡ length (own v).log)) l.more (s ∷ []) l.there
          ((refl, refl), tt);
      view = ap (met o x) l.view ∙ ap (λ (ps : List Part). record v { parts = ps }) parts;
    }

-- the own part but what it met
pub own_kept : (v w : View) (o : Object) → v.parts ≡ own v ∷ [] → (l : LooksOn v o w) → own w ≡ seeing l.more (own v)
own_kept v w o is l = ap own l.view ∙ ap (λ ps. first_of (with_own (seeing l.more) ps)) is

pub alone_still : (v w : View) (o : Object) → v.parts ≡ own v ∷ [] → LooksOn v o w → w.parts ≡ own w ∷ []
alone_still v w o is l =
    let parts : w.parts ≡ seeing l.more (own v) ∷ [] = ap (λ (u : View). u.parts) l.view ∙ ap (with_own (seeing l.more)) is in
    parts ∙ ap (λ p. p ∷ []) (sym (ap first_of parts))

-- a word is met as it was before the looks
pub meets_still : (v w : View) (o : Object) (x : ℕ) → v.parts ≡ own v ∷ [] → LooksOn v o w → Meets w o x → Meets v o x
meets_still v w o x is l m =
    let same = own_kept v w o is l in
    let ready : w.ready ≡ v.ready = ap (λ (u : View). u.ready) l.view in
    let left : (own w).left ≡ (own v).left = ap (λ (p : Part). p.left) same in record {
      place = m.place;
      state = m.state;
      unpacks = m.unpacks;
      fitting = m.fitting;
      above = subst (λ (p : Part). IsBelow o m.place p.log) same m.above;
      room = λ some. m.room (omega arith);
      ready = λ y of listed. m.ready y of (subst (λ (ws : List Watch). Contains ws y) (sym ready) listed);
      pause = λ n g s of is listed parks. m.pause n g s of is
          (subst (λ (ws : List Watch). Contains ws (watch.Element n)) (sym ready) listed)
          (ap (λ (p : Part). parked n p.log) same ∙ parks);
    }

-- ---- the event

-- it has the place and the reply that were computed of the word
unfoldable pub after_looks : (v between new : View) (o : Object) (op : Op) (w place next : ℕ) (reply : Reply) → v.parts ≡ own v ∷ []
    → LooksOn v o between → Meets v o w → Made between o op w new → changed o op w ≡ Some (place, next, reply)
    → MadeAfterLooks v o op place reply new
after_looks v between new o op w place next reply is l m made e =
    let a : ℕ × ℕ × Reply = (made.place, made.word, made.reply) in
    let b : ℕ × ℕ × Reply = (place, next, reply) in
    let some : Some a ≡ Some b = sym made.change ∙ e in
    let same : a ≡ b = cc some in
    let p : made.place ≡ place = ap (λ (z : ℕ × ℕ × Reply). z.0) same in
    let r : made.reply ≡ reply = ap (λ (z : ℕ × ℕ × Reply). z.2) same in
    let there = read_parts o op w place next reply e in
    let met_at : ℕ × WordState = (m.place, m.state) in
    let made_at : ℕ × WordState = (place, there.0) in
    let found : Some met_at ≡ Some made_at = sym m.unpacks ∙ there.1 in
    let here : met_at ≡ made_at = cc found in
    let caller = ap (λ (q : Part). q.caller) (own_kept v between o is l) in record {
      between = between;
      looks = l;
      word = w;
      meets = m;
      changes = (next, e);
      above = subst (λ (z : ℕ × WordState). IsBelow o z.0 (own v).log) here m.above;
      view = made.view ∙ (λ i. logged record { caller = caller i; object = o; place = p i; op = op; reply = r i } [] between);
      possible = made.possible;
    }
