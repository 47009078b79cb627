-- A list gone through entry by entry.
use Rattle.std.proofs.Common.{◌≡◌, ℕ, ◌+◌, ◌<◌, ◌≤◌, Bool, true, List, [], ◌∷◌, ◌++◌, length, take, drop, get_or, Option, Some}
use Rattle.std.proofs.Common.{None, option_map, cond, inl, inr, refl, sym, ap, ◌∙◌, arith}
use Rattle.std.proofs.lemmas.Bool.{cases_Bool}
use Rattle.std.proofs.lemmas.List.{take_more, drop_more, take-append-drop, length-take-le}
use Rattle.mv_ecb.specs.declared.operation.EcbOp.TheVariants.{Arm}
use Rattle.mv_ecb.specs.declared.operation.EcbReply.TheVariants.{Armed}
use Rattle.mv_latch.specs.declared.operation.Wake.{Wake}
use Rattle.mv_config.specs.Limits.{highest_place, place_limit}
use Rattle.mv_machine.specs.declared.entry.Entry.{Entry}
use Rattle.mv_machine.specs.declared.entry.Object.{Object}
use Rattle.mv_machine.specs.declared.entry.Object.TheVariants.{Ecb, Element, Volume, Latches}
use Rattle.mv_machine.specs.declared.entry.Op.{Op}
use Rattle.mv_machine.specs.declared.entry.Op.TheVariants as op_on
use Rattle.mv_machine.specs.declared.entry.Reply.{Reply}
use Rattle.mv_machine.specs.declared.entry.Reply.TheVariants as reply_of
use Rattle.mv_machine.specs.declared.replaying.Illegal.{Illegal}
use Rattle.mv_machine.specs.Legal.{IsNext, next, LegalFrom, after_from, same_object}
use Rattle.mv_machine.specs.Replay.{IsFirstIllegal}
use Rattle.mv_config.specs.Setup.{Setup}
use Rattle.mv_machine.specs.System.{System, opening, admitted, answer, after_step, wakes_after, place_of, reply_to}
use Rattle.mv_machine.specs.Told.{shown_after, last_wakes_from}
use Rattle.mv_machine.proofs.Histories.{after_from-append, LegalFrom-append, LegalFrom-rest, place-moved}
use Rattle.mv_machine.proofs.Objects.{same_is}

from_some : (b : Bool) (p q : ℕ) (m : Option Reply) (r : Reply) → cond b (option_map {U = ℕ × Reply} (λ x. (p, x)) m) None ≡ Some (q, r)
    → (b ≡ true) × (q ≡ p) × (Some r ≡ m)
from_some b p q m r e = grind arith

-- an entry with the machine's answer is the next one
pub is_next : (c : Setup) (s : System) (e : Entry) → answer c s e.caller e.object e.op ≡ Some (e.place, e.reply) → IsNext c s e
is_next c s e h =
    let w : (admitted c s e.caller e.object e.op ≡ true) × (e.place ≡ place_of s e.object)
    × (Some e.reply ≡ reply_to s e.caller e.object e.op) = from_some (admitted c s e.caller e.object e.op) (place_of s e.object) e.place
    (reply_to s e.caller e.object e.op) e.reply h in
    record { admits = w.0; place = w.1; reply = w.2 }

pub legal_push : (c : Setup) (s : System) (es : List Entry) (e : Entry) → LegalFrom c s es → IsNext c (after_from s es) e
    → LegalFrom c s (es ++ e ∷ [])
legal_push c s es e l n = LegalFrom-append c s es (e ∷ []) l (n, tt)

-- a place stays below its limit where the entry's is below it by one
pub place_kept : (c : Setup) (s : System) (e : Entry) (q : Object) → IsNext c s e → e.place ≤ highest_place → place_of s q < place_limit
    → place_of (next s e) q < place_limit
place_kept c s e q n low lt =
    let moves : place_of (next s e) q ≡ cond (same_object e.object q) (place_of s q + 1) (place_of s q) =
    place-moved c s e.caller e.object e.place e.op e.reply q n in
    elim (cases_Bool (same_object e.object q)) [
      | inl y ↦ let same : place_of s e.object ≡ place_of s q = ap (λ o. place_of s o) (same_is e.object q y) in
          let at : e.place ≡ place_of s e.object = n.place in grind (arith, y, moves)
      | inr n ↦ grind (arith, n, moves)
    ]

-- one more entry that the machine answers so
pub legal_more : (c : Setup) (s : System) (es : List Entry) (i : ℕ) (d : Entry) → i < length es → LegalFrom c s (take i es)
    → answer c (after_from s (take i es)) (get_or es i d).caller (get_or es i d).object (get_or es i d).op ≡ Some
    ((get_or es i d).place, (get_or es i d).reply)
    → LegalFrom c s (take (i + 1) es)
legal_more c s es i d lt l h =
    rw (take_more es i d lt) (legal_push c s (take i es) (get_or es i d) l (is_next c (after_from s (take i es)) (get_or es i d) h))

pub after_more : (c : Setup) (s : System) (es : List Entry) (i : ℕ) (d : Entry) → i < length es
    → answer c (after_from s (take i es)) (get_or es i d).caller (get_or es i d).object (get_or es i d).op ≡ Some
    ((get_or es i d).place, (get_or es i d).reply)
    → after_step c (after_from s (take i es)) (get_or es i d).caller (get_or es i d).object (get_or es i d).op ≡ after_from s
    (take (i + 1) es)
after_more c s es i d lt h =
    rw (take_more es i d lt, after_from-append, (is_next c (after_from s (take i es)) (get_or es i d) h).admits) refl

-- what the machine answers where an entry is the next one
pub answer_is : (c : Setup) (s : System) (e : Entry) → IsNext c s e → answer c s e.caller e.object e.op ≡ Some (e.place, e.reply)
answer_is c s e n = rw (n.admits, ← n.reply, ← n.place) refl

-- a list with an entry that is not the machine's is not legal
pub not_legal : (c : Setup) (s : System) (es : List Entry) (i : Illegal) → IsFirstIllegal c s es i → LegalFrom c s es → ⊥
not_legal c s es i w l =
    let whole : LegalFrom c s (w.before ++ w.entry ∷ w.later) = rw (w.split) at l in
    let there : LegalFrom c (after_from s w.before) (w.entry ∷ w.later) = LegalFrom-rest c s w.before (w.entry ∷ w.later) whole in
    w.differs (w.machine ∙ answer_is c (after_from s w.before) w.entry there.0 ∙ ap (λ k. Some k) (sym w.kept))

pub last_wakes_from-append : (s : System) (shown : List Wake) (xs ys : List Entry)
    → last_wakes_from s shown (xs ++ ys) ≡ last_wakes_from (after_from s xs) (last_wakes_from s shown xs) ys
last_wakes_from-append s shown [] ys = refl
last_wakes_from-append s shown (x ∷ xs) ys = last_wakes_from-append (next s x) _ xs ys

pub shown_is : (c : Setup) (s : System) (shown : List Wake) (k : ℕ) (o : Object) (op : Op) → admitted c s k o op ≡ true
    → wakes_after c s shown k o op ≡ shown_after s shown k o op
shown_is c s shown k Latches (op_on.Latch op) ok = rw ok refl
shown_is c s shown k o op ok = refl

pub wakes_more : (c : Setup) (s : System) (shown : List Wake) (es : List Entry) (i : ℕ) (d : Entry) → i < length es
    → answer c (after_from s (take i es)) (get_or es i d).caller (get_or es i d).object (get_or es i d).op ≡ Some
    ((get_or es i d).place, (get_or es i d).reply)
    → wakes_after c (after_from s (take i es)) (last_wakes_from s shown (take i es)) (get_or es i d).caller (get_or es i d).object
    (get_or es i d).op ≡ last_wakes_from s shown (take (i + 1) es)
wakes_more c s shown es i d lt h =
    rw (take_more es i d lt, last_wakes_from-append)
    (shown_is c (after_from s (take i es)) (last_wakes_from s shown (take i es)) (get_or es i d).caller (get_or es i d).object
    (get_or es i d).op (is_next c (after_from s (take i es)) (get_or es i d) h).admits)

-- the entry that a read past the end of a slice would give
abbrev pub no_entry : Entry
no_entry = record { caller = 0; object = Ecb 0; place = 0; op = op_on.Ecb Arm; reply = reply_of.Ecb Armed }

-- one pass of the loop, whatever the entry is
module _ (c : Setup) (s t : System) (es : List Entry) (i : ℕ) (lt : i < length es) (l : LegalFrom c s (take i es))
    (is : t ≡ after_from s (take i es)) (m : Option (ℕ × Reply)) (e : Entry) (at_i : e ≡ get_or es i no_entry)
    (says : m ≡ answer c t e.caller e.object e.op) where
  the_answer : m ≡ Some (e.place, e.reply) → answer c (after_from s (take i es)) (get_or es i no_entry).caller (get_or es i no_entry).object
      (get_or es i no_entry).op ≡ Some ((get_or es i no_entry).place, (get_or es i no_entry).reply)
  the_answer same = rw (← at_i, ← is) (sym says ∙ same)

  pub pass_legal : m ≡ Some (e.place, e.reply) → LegalFrom c s (take (i + 1) es)
  pass_legal same = legal_more c s es i no_entry lt l (the_answer same)

  pub pass_after : m ≡ Some (e.place, e.reply) → after_step c t e.caller e.object e.op ≡ after_from s (take (i + 1) es)
  pass_after same = rw (is, at_i) (after_more c s es i no_entry lt (the_answer same))

  pub pass_wakes : (shown before : List Wake) → before ≡ last_wakes_from s shown (take i es) → m ≡ Some (e.place, e.reply)
      → wakes_after c t before e.caller e.object e.op ≡ last_wakes_from s shown (take (i + 1) es)
  pass_wakes shown before was same = rw (was, is, at_i) (wakes_more c s shown es i no_entry lt (the_answer same))

  pub pass_places : e.place ≤ highest_place → ((o : Object) → place_of t o < place_limit) → m ≡ Some (e.place, e.reply) → (o : Object)
      → place_of (after_step c t e.caller e.object e.op) o < place_limit
  pass_places low places same o =
      let n : IsNext c t e = is_next c t e (sym says ∙ same) in
      rw (n.admits) (place_kept c t e o n low (places o))

  pub pass_illegal : (m ≡ Some (e.place, e.reply) → ⊥)
      → IsFirstIllegal c s es (record { index = i; kept = (e.place, e.reply); machine = m })
  pass_illegal other = record {
    before = take i es;
    entry = e;
    later = drop (i + 1) es;
    split = sym (take-append-drop i es) ∙ ap (λ ys. take i es ++ ys) (drop_more es i no_entry lt
        ∙ ap (λ x. x ∷ drop (i + 1) es) (sym at_i));
    index = sym (length-take-le i es (omega arith));
    legal = l;
    kept = refl;
    machine = rw (← is) says;
    differs = other;
  }

-- every place is 0 at the opening
pub opening_places : (c : Setup) (o : Object) → place_of (opening c) o < place_limit
opening_places c (Ecb n) = omega arith
opening_places c (Element n) = omega arith
opening_places c (Volume n) = omega arith
opening_places c Latches = omega arith
