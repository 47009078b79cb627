-- A history with one entry more, and what was had in it.
use Rattle.std.proofs.Common.{◌≡◌, ℕ, ◌+◌, ◌<◌, ◌≤◌, ◌==◌, Bool, true, false, cond, List, [], ◌∷◌, ◌++◌, length, drop, Some, IsSome}
use Rattle.std.proofs.Common.{inl, inr, refl, sym, ap, ◌∙◌, arith, le_refl, length-append, append_assoc}
use Rattle.std.proofs.lemmas.List.{take-append-le, drop-append-le, take_all, drop_all}
use Rattle.std.proofs.lemmas.Bool.{cases_eq, false≢true, ne_eqb}
use Rattle.std.proofs.lemmas.List.Elements.{All-weaker, All-from_recursion}
use Rattle.std.specs.List.{All, AllByRecursion}
use Rattle.mv_config.specs.Limits.{events_limit, highest_place}
use Rattle.mv_machine.specs.declared.entry.Entry.{Entry}
use Rattle.mv_machine.specs.declared.entry.Object.{Object}
use Rattle.mv_machine.specs.declared.entry.Object.TheVariants.{Ecb, Element, Volume, Latches}
use Rattle.mv_machine.specs.declared.entry.Op.{Op}
use Rattle.mv_machine.specs.declared.entry.Op.TheVariants as op_on
use Rattle.mv_machine.specs.declared.packing.WordState.{WordState}
use Rattle.mv_machine.specs.Legal.{IsNext, LegalFrom, Legal, SameAt, after, after_from, next, same_object, of, «at»}
use Rattle.mv_machine.specs.Packing.{state_at, word_at}
use Rattle.mv_machine.specs.Parts.{IsBelow, IsFrom, Had}
use Rattle.mv_config.specs.Setup.{Setup}
use Rattle.mv_machine.specs.System.{System, opening, place_of}
use Rattle.mv_machine.specs.Told.{told_at, told_from}
use Rattle.mv_machine.proofs.Budgets.{place_is_count, places_fit}
use Rattle.mv_machine.proofs.Histories.{after_from-append, LegalFrom-append, LegalFrom-front, LegalFrom-rest, place-after, place-moved}
use Rattle.mv_machine.proofs.Objects.{of-append, at-append, same_self}
use Rattle.mv_machine.proofs.Places.{of_mine, of_other}
use Rattle.mv_machine.proofs.SameParts.{after_by_part}
use Rattle.mv_machine.proofs.Words.{reached_unpack}

-- ---- the history

pub legal_longer : (c : Setup) (es : List Entry) (e : Entry) → Legal c es → IsNext c (after c es) e → Legal c (es ++ e ∷ [])
legal_longer c es e l n = LegalFrom-append c (opening c) es (e ∷ []) l (n, tt)

pub after_longer : (c : Setup) (es : List Entry) (e : Entry) → after c (es ++ e ∷ []) ≡ next (after c es) e
after_longer c es e = after_from-append (opening c) es (e ∷ [])

pub last_is_next : (c : Setup) (es : List Entry) (e : Entry) → Legal c (es ++ e ∷ []) → IsNext c (after c es) e
last_is_next c es e l = (LegalFrom-rest c (opening c) es (e ∷ []) l).0

pub front_is_legal : (c : Setup) (es : List Entry) (e : Entry) → Legal c (es ++ e ∷ []) → Legal c es
front_is_legal c es e l = LegalFrom-front c (opening c) es (e ∷ []) l

pub told_from-append : (s : System) (k : ℕ) (es fs : List Entry)
    → told_from s k (es ++ fs) ≡ told_from s k es ++ told_from (after_from s es) k fs
told_from-append s k [] fs = refl
told_from-append s k (e ∷ es) fs =
    ap (λ ws. told_at s k e.caller e.object e.op ++ ws) (told_from-append (next s e) k es fs)
    ∙ rw append_assoc refl

-- another caller's event tells nothing
pub told_other : (s : System) (k j : ℕ) (o : Object) (op : Op) → (j ≡ k → ⊥) → told_at s k j o op ≡ []
told_other s k j Latches (op_on.Latch op) other = rw (ne_eqb j k other) refl
told_other s k j o op other = refl

-- so a list without entries of a caller tells it nothing
pub told_nothing_from : (s : System) (k : ℕ) (es : List Entry) → of k es ≡ [] → told_from s k es ≡ []
told_nothing_from s k [] none = refl
told_nothing_from s k (e ∷ es) none = elim (cases_eq e.caller k) [
  | inl mine ↦ absurd (cc (sym (of_mine k e es mine) ∙ none))
  | inr other ↦ ap (λ ws. ws ++ told_from (next s e) k es) (told_other s k e.caller e.object e.op other)
      ∙ told_nothing_from (next s e) k es (sym (of_other k e es other) ∙ none)
]

-- ---- what was had stays had

from_longer : (o : Object) (p : ℕ) (xs ys : List Entry) → IsFrom o p xs → IsFrom o p ys → IsFrom o p (xs ++ ys)
from_longer o p [] ys a b = b
from_longer o p (x ∷ xs) ys a b = (a.0, from_longer o p xs ys a.1 b)

from_filter : (o : Object) (p : ℕ) (test : Entry → Bool) (e : Entry) → (e.object ≡ o → p ≤ e.place) → IsFrom o p (cond (test e) (e ∷ []) [])
from_filter o p test e h = elim (test e) as (λ b. IsFrom o p (cond b (e ∷ []) [])) [ true ↦ (h, tt) | false ↦ tt ]

pub had_longer : (c : Setup) (es : List Entry) (e : Entry) (k n w : ℕ) (o : Object) → Legal c (es ++ e ∷ []) → Had c es k n o w
    → Had c (es ++ e ∷ []) k n o w
had_longer c es e k n w o l h =
    let at_more : «at» o (es ++ e ∷ []) ≡ «at» o es ++ «at» o (e ∷ []) = at-append o es (e ∷ []) in
    let of_more : of k (es ++ e ∷ []) ≡ of k es ++ of k (e ∷ []) = of-append k es (e ∷ []) in
    let later : e.object ≡ o → h.place ≤ e.place = (λ (same : e.object ≡ o).
    let next : IsNext c (after c es) e = last_is_next c es e l in
    let count : place_of (after c es) e.object ≡ length («at» o es) = place_is_count c es e.object (front_is_legal c es e l)
    ∙ ap (λ q. length («at» q es)) same in
    omega (arith, next.place, count, h.reached)) in
    record {
      place = h.place;
      state = h.state;
      unpacks = h.unpacks;
      reached = rw at_more (omega (arith, h.reached, length-append («at» o es) («at» o (e ∷ []))));
      was = rw (at_more, take-append-le h.place («at» o es) («at» o (e ∷ [])) h.reached) h.was;
      made = rw of_more (omega (arith, h.made, length-append (of k es) (of k (e ∷ []))));
      behind = rw (of_more, take-append-le n (of k es) (of k (e ∷ [])) h.made) h.behind;
      ahead = rw (of_more, drop-append-le n (of k es) (of k (e ∷ [])) h.made)
          (from_longer o h.place (drop n (of k es)) (of k (e ∷ [])) h.ahead (from_filter o h.place (λ x. x.caller == k) e later));
    }

-- ---- what is met now is had

below_more : (o : Object) (p q : ℕ) (es : List Entry) → p ≤ q → IsBelow o p es → IsBelow o q es
below_more o p q [] le b = tt
below_more o p q (e ∷ es) le b = ((λ (same : e.object ≡ o). let lt : e.place < p = b.0 same in omega arith), below_more o p q es le b.1)

below_part : (o : Object) (p k : ℕ) (es : List Entry) → IsBelow o p es → IsBelow o p (of k es)
below_part o p k [] b = tt
below_part o p k (e ∷ es) b = elim (e.caller == k) as (λ t. IsBelow o p (cond t (e ∷ of k es) (of k es))) [
  | true ↦ (b.0, below_part o p k es b.1)
  | false ↦ below_part o p k es b.1
]

-- each entry's place is below its object's place after the list
below_after_from : (c : Setup) (s : System) (o : Object) (es : List Entry) → LegalFrom c s es → IsBelow o (place_of (after_from s es) o) es
below_after_from c s o [] l = tt
below_after_from c s o (e ∷ es) l = (
  (λ (same : e.object ≡ o).
      let risen : place_of (next s e) o ≡ cond (same_object e.object o) (place_of s o + 1) (place_of s o) =
      place-moved c s e.caller e.object e.place e.op e.reply o l.0 in
      let hit : same_object e.object o ≡ true = ap (λ q. same_object q o) same ∙ same_self o in
      let one : place_of (next s e) o ≡ place_of s o + 1 = risen ∙ ap (λ b. cond b (place_of s o + 1) (place_of s o)) hit in
      let here : e.place ≡ place_of s o = l.0.place ∙ ap (λ q. place_of s q) same in
      omega (arith, one, here, place-after c (next s e) es o l.1)),
  below_after_from c (next s e) o es l.1,
)

pub below_after : (c : Setup) (es : List Entry) (o : Object) → Legal c es → IsBelow o (place_of (after c es) o) es
below_after c es o l = below_after_from c (opening c) o es l

-- each entry is below its object's next place
each_below : (next : Object → ℕ) (es : List Entry) → ((o : Object) → IsBelow o (next o) es)
    → AllByRecursion (λ e. e.place < next e.object) es
each_below next [] below = tt
each_below next (e ∷ es) below = ((below e.object).0 refl, each_below next es (λ o. (below o).1))

pub entries_fit : (c : Setup) (es : List Entry) → Legal c es → length es ≤ events_limit → All (λ e. e.place ≤ highest_place) es
entries_fit c es l le =
    let next : Object → ℕ = place_of (after c es) in
    All-weaker (λ (e : Entry). e.place < next e.object) (λ e. e.place ≤ highest_place)
    (λ e low. let high = places_fit c es e.object l le in omega (arith, low, high)) es
    (All-from_recursion (λ (e : Entry). e.place < next e.object) es (each_below next es (λ o. below_after c es o l)))

same_state_at : (o : Object) (s t : System) → SameAt o s t → state_at s o ≡ state_at t o
same_state_at (Ecb n) s t same = rw same refl
same_state_at (Element n) s t same = rw same refl
same_state_at (Volume n) s t same = rw same refl
same_state_at Latches s t same = refl

had_state : (c : Setup) (es : List Entry) (k : ℕ) (o : Object) (x : WordState) → Legal c es → length es ≤ events_limit
    → state_at (after c es) o ≡ Some x
    → Had c es k (length (of k es)) o (word_at (after c es) o)
had_state c es k o x l le is =
    let count : place_of (after c es) o ≡ length («at» o es) = place_is_count c es o l in
    record {
      place = place_of (after c es) o;
      state = x;
      unpacks = reached_unpack c es o l le ∙ rw is refl;
      reached = omega arith;
      was = ap (λ xs. state_at (after c xs) o) (take_all (place_of (after c es) o) («at» o es) (omega arith))
          ∙ (sym (same_state_at o (after c es) (after c («at» o es)) (after_by_part c es o l)) ∙ is);
      made = le_refl (length (of k es));
      behind = rw (take_all (length (of k es)) (of k es) (le_refl (length (of k es))))
          (below_part o (place_of (after c es) o) k es (below_after c es o l));
      ahead = rw (drop_all (length (of k es)) (of k es) (le_refl (length (of k es)))) tt;
    }

pub had_now : (c : Setup) (es : List Entry) (k : ℕ) (o : Object) → Legal c es → length es ≤ events_limit → IsSome (state_at (after c es) o)
    → Had c es k (length (of k es)) o (word_at (after c es) o)
had_now c es k (Ecb n) l le is = had_state c es k (Ecb n) _ l le refl
had_now c es k (Element n) l le is = had_state c es k (Element n) _ l le refl
had_now c es k (Volume n) l le is = had_state c es k (Volume n) _ l le refl
had_now c es k Latches l le is = absurd (false≢true is)
