-- Lists of entries set one after the other, and an object's place.
use Rattle.std.proofs.Common.{◌≡◌, ◌≤◌, ℕ, ◌+◌, List, [], ◌∷◌, ◌++◌, length, cond, inl, inr, refl, sym, arith, add-zero}
use Rattle.std.proofs.Common.{append_assoc, append-nil}
use Rattle.std.proofs.lemmas.List.Sums.{length-filter, count_by-le-length}
use Rattle.std.proofs.lemmas.Bool.{eq-eqb, ne_eqb, cases_Bool, false≢true}
use Rattle.mv_machine.specs.declared.entry.Object.{Object}
use Rattle.mv_machine.specs.declared.entry.Object.TheVariants.{Ecb, Element, Volume, Latches}
use Rattle.mv_machine.specs.declared.entry.Op.{Op}
use Rattle.mv_machine.specs.declared.entry.Op.TheVariants as op_on
use Rattle.mv_machine.specs.declared.entry.Reply.{Reply}
use Rattle.mv_machine.specs.declared.entry.Entry.{Entry}
use Rattle.mv_config.specs.Setup.{Setup}
use Rattle.mv_machine.specs.System.{System, opening, place_of, moved, with_at}
use Rattle.mv_machine.specs.Legal.{IsNext, next, after_from, LegalFrom, same_object, «at»}

pub after_from-append : (s : System) (xs ys : List Entry) → after_from s (xs ++ ys) ≡ after_from (after_from s xs) ys
after_from-append s [] ys = refl
after_from-append s (x ∷ xs) ys = after_from-append (next s x) xs ys

pub LegalFrom-front : (c : Setup) (s : System) (xs ys : List Entry) → LegalFrom c s (xs ++ ys) → LegalFrom c s xs
LegalFrom-front c s [] ys l = tt
LegalFrom-front c s (x ∷ xs) ys l = (l.0, LegalFrom-front c (next s x) xs ys l.1)

pub LegalFrom-rest : (c : Setup) (s : System) (xs ys : List Entry) → LegalFrom c s (xs ++ ys) → LegalFrom c (after_from s xs) ys
LegalFrom-rest c s [] ys l = l
LegalFrom-rest c s (x ∷ xs) ys l = LegalFrom-rest c (next s x) xs ys l.1

pub LegalFrom-append : (c : Setup) (s : System) (xs ys : List Entry) → LegalFrom c s xs → LegalFrom c (after_from s xs) ys
    → LegalFrom c s (xs ++ ys)
LegalFrom-append c s [] ys l m = m
LegalFrom-append c s (x ∷ xs) ys l m = (l.0, LegalFrom-append c (next s x) xs ys l.1 m)

-- what holds of the empty list, and of a list with one more at its end, holds of every list
pub by_last : {A : Type 0} (P : List A → Type 0) → P [] → ((xs : List A) (x : A) → P xs → P (xs ++ x ∷ [])) → (xs : List A) → P xs
by_last {A} P base more xs = grow [] base xs where
  grow : (front : List A) → P front → (rest : List A) → P (front ++ rest)
  grow front p [] = rw append-nil p
  grow front p (x ∷ rest) = rw append_assoc at (grow (front ++ x ∷ []) (more front x p) rest)

-- a place moves by one at its own object alone
pub place-moved : (c : Setup) (s : System) (k : ℕ) (o : Object) (p : ℕ) (op : Op) (r : Reply) (q : Object)
    → IsNext c s (record { caller = k; object = o; place = p; op = op; reply = r })
    → place_of (moved s k o op) q ≡ cond (same_object o q) (place_of s q + 1) (place_of s q)
place-moved c s k (Ecb n) p (op_on.Ecb op) r (Ecb m) h = grind arith
place-moved c s k (Ecb n) p (op_on.Ecb op) r q h = refl
place-moved c s k (Element n) p (op_on.Element op) r (Element m) h = grind arith
place-moved c s k (Element n) p (op_on.Element op) r q h = refl
place-moved c s k (Volume n) p (op_on.Volume op) r (Volume m) h = grind arith
place-moved c s k (Volume n) p (op_on.Volume op) r q h = refl
place-moved c s k Latches p (op_on.Latch op) r Latches h = refl
place-moved c s k Latches p (op_on.Latch op) r q h = refl
place-moved c s k o p op r q h = absurd (false≢true h.admits)

pub place-after : (c : Setup) (s : System) (es : List Entry) (q : Object) → LegalFrom c s es
    → place_of (after_from s es) q ≡ place_of s q + length («at» q es)
place-after c s [] q l = sym (add-zero (place_of s q))
place-after c s (e ∷ es) q l =
    let moves : place_of (next s e) q ≡ cond (same_object e.object q) (place_of s q + 1) (place_of s q) =
    place-moved c s e.caller e.object e.place e.op e.reply q l.0 in
    let rest : place_of (after_from (next s e) es) q ≡ place_of (next s e) q + length («at» q es) = place-after c (next s e) es q l.1 in
    elim (cases_Bool (same_object e.object q)) [
      | inl y ↦ grind (arith, y, moves, rest)
      | inr n ↦ grind (arith, n, moves, rest)
    ]

-- a table at the place that was changed, and at any other
pub with_at-same : {A : Type 0} (f : ℕ → A) (n : ℕ) (a : A) (k : ℕ) → k ≡ n → with_at f n a k ≡ a
with_at-same f n a k e = rw (eq-eqb k n e)

pub with_at-own : {A : Type 0} (f : ℕ → A) (n : ℕ) (a : A) → with_at f n a n ≡ a
with_at-own f n a = with_at-same f n a n refl

pub with_at-other : {A : Type 0} (f : ℕ → A) (n : ℕ) (a : A) (k : ℕ) → (k ≡ n → ⊥) → with_at f n a k ≡ f k
with_at-other f n a k e = rw (ne_eqb k n e)

-- a place is at most the number of all entries
pub place_bounded : (c : Setup) (s : System) (es : List Entry) (o : Object) → LegalFrom c s es
    → place_of (after_from s es) o ≤ place_of s o + length es
place_bounded c s es o l =
    omega (
      arith,
      place-after c s es o l,
      length-filter (λ e. same_object e.object o) es,
      count_by-le-length
          (λ e. same_object e.object o) es,
    )

-- at the opening each object has its first place
pub zero_place : (c : Setup) (o : Object) → place_of (opening c) o ≡ 0
zero_place c (Ecb n) = refl
zero_place c (Element n) = refl
zero_place c (Volume n) = refl
zero_place c Latches = refl
