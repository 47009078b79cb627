-- The merge of the parts of a legal list is the same history.
use Rattle.std.proofs.Common.{◌≡◌, ℕ, zero, suc, ◌+◌, ◌<◌, ◌≤◌, IsTrue, cond, List, [], ◌∷◌, length, sym, refl, ap, ◌∙◌, subst, arith}
use Rattle.std.proofs.lemmas.Bool.{false≢true}
use mathlib.Core.Logic.{dite}
use native.Mathlib.Decide.{ℕ_discrete}
use Rattle.mv_machine.specs.declared.entry.Entry.{Entry}
use Rattle.mv_machine.specs.declared.entry.Object.{Object}
use Rattle.mv_machine.specs.declared.entry.Object.TheVariants.{Ecb, Element, Volume, Latches}
use Rattle.mv_machine.specs.declared.entry.Op.{Op}
use Rattle.mv_machine.specs.declared.entry.Op.TheVariants as op_on
use Rattle.mv_machine.specs.Legal.{Legal, LegalFrom, IsNext, after, next, same_object, of, «at»}
use Rattle.mv_machine.specs.Merge.{start, risen, merge_from, entry_count, merged}
use Rattle.mv_machine.specs.Parts.{parts_from, parts, Had}
use Rattle.mv_config.specs.Setup.{Setup}
use Rattle.mv_machine.specs.System.{System, opening, place_of, admitted}
use Rattle.mv_machine.specs.Told.{told}
use Rattle.mv_machine.proofs.Histories.{place-moved, zero_place}
use Rattle.mv_machine.proofs.Places.{object_discrete, same_hit, same_miss, of_mine, of_other, Placed}
use Rattle.mv_machine.proofs.Picks.{Within, Same, merges, picks_count}
use Rattle.mv_machine.proofs.SameParts.{same_legal, same_after, same_told, same_had}

-- ---- a legal list has its objects' places, and its callers are those of the configuration
pub same_swapped : (a b : Object) → same_object a b ≡ same_object b a
same_swapped a b = dite (object_discrete a b)
    (λ e. same_hit a b e ∙ sym (same_hit b a (sym e)))
    (λ n. same_miss a b n ∙ sym (same_miss b a (λ e. n (sym e))))

-- a legal entry's object has its next place raised, and no other
pub places_after : (c : Setup) (s : System) (e : Entry) → IsNext c s e → place_of (next s e) ≡ risen (place_of s) e.object
places_after c s e n = λ i o. moves o i
  where
    moves : (o : Object) → place_of (next s e) o ≡ risen (place_of s) e.object o
    moves o =
        place-moved c s e.caller e.object e.place e.op e.reply o n
        ∙ ap (λ b. cond b (place_of s o + 1) (place_of s o)) (same_swapped e.object o)

pub placed_from : (c : Setup) (s : System) (es : List Entry) → LegalFrom c s es → Placed (place_of s) es
placed_from c s [] l = tt
placed_from c s (e ∷ es) l = (l.0.place, subst (λ p. Placed p es) (places_after c s e l.0) (placed_from c (next s e) es l.1))

pub starts : (c : Setup) → place_of (opening c) ≡ start
starts c = λ i o. zero_place c o i

pub legal_placed : (c : Setup) (es : List Entry) → Legal c es → Placed start es
legal_placed c es l = subst (λ p. Placed p es) (starts c) (placed_from c (opening c) es l)

pub caller_there : (c : Setup) (s : System) (k : ℕ) (o : Object) (op : Op) → IsTrue (admitted c s k o op) → k < c.callers
caller_there c s k (Ecb n) (op_on.Ecb op) h = grind arith
caller_there c s k (Element n) (op_on.Element op) h = grind arith
caller_there c s k (Volume n) (op_on.Volume op) h = grind arith
caller_there c s k Latches (op_on.Latch op) h = grind arith
caller_there c s k o op h = absurd (false≢true h)

pub within_from : (c : Setup) (s : System) (es : List Entry) → LegalFrom c s es → Within c.callers es
within_from c s [] l = tt
within_from c s (e ∷ es) l = (caller_there c s e.caller e.object e.op l.0.admits, within_from c (next s e) es l.1)

pub legal_within : (c : Setup) (es : List Entry) → Legal c es → Within c.callers es
legal_within c es l = within_from c (opening c) es l

-- ---- the parts have all entries
-- an entry of a caller below k is in none of the parts from k on, and one of theirs in just one
total_skip : (n k : ℕ) (x : Entry) (xs : List Entry) → x.caller < k
    → entry_count (parts_from k n (x ∷ xs)) ≡ entry_count (parts_from k n xs)
total_skip zero k x xs l = refl
total_skip (suc n) k x xs l =
    let a = ap (λ (z : List Entry). length z) (of_other k x xs (λ e. absurd (omega arith))) in
    let b = total_skip n (suc k) x xs (omega arith) in
    omega arith

total_one : (n k : ℕ) (x : Entry) (xs : List Entry) → k ≤ x.caller → x.caller < k + n
    → entry_count (parts_from k n (x ∷ xs)) ≡ suc (entry_count (parts_from k n xs))
total_one zero k x xs a b = absurd (omega arith)
total_one (suc n) k x xs a b = dite (ℕ_discrete x.caller k)
    (λ m. let p = ap (λ (z : List Entry). length z) (of_mine k x xs m) in let q = total_skip n (suc k) x xs (omega arith) in omega arith)
    (λ m. let p = ap (λ (z : List Entry). length z) (of_other k x xs m) in
    let q = total_one n (suc k) x xs (omega arith) (omega arith) in omega arith)

total_none : (n k : ℕ) → entry_count (parts_from k n []) ≡ 0
total_none zero k = refl
total_none (suc n) k = let a = total_none n (suc k) in omega arith

total_within : (n : ℕ) (es : List Entry) → Within n es → entry_count (parts n es) ≡ length es
total_within n [] w = total_none n 0
total_within n (x ∷ xs) w =
    let a : x.caller < n = w.0 in
    let b = total_within n xs w.1 in
    let p = total_one n 0 x xs (omega arith) (omega arith) in
    omega arith

pub total_parts : (c : Setup) (es : List Entry) → Legal c es → entry_count (parts c.callers es) ≡ length es
total_parts c es l = total_within c.callers es (legal_within c es l)

-- ---- the merge is the same history
pub merged_same : (c : Setup) (es : List Entry) → Legal c es → Same (merged (parts c.callers es)) es
merged_same c es l =
    subst (λ n. Same (merge_from n start (parts c.callers es)) es) (sym (total_parts c es l))
    (merges (length es) start c.callers es refl (legal_placed c es l) (legal_within c es l))

same_objects : (c : Setup) (es : List Entry) → Legal c es → (o : Object) → «at» o es ≡ «at» o (merged (parts c.callers es))
same_objects c es l o = sym ((merged_same c es l).objects o)

pub merged_legal : (c : Setup) (es : List Entry) → Legal c es → Legal c (merged (parts c.callers es))
merged_legal c es l = same_legal c es (merged (parts c.callers es)) (same_objects c es l) l

pub merged_callers : (c : Setup) (es : List Entry) (k : ℕ) → Legal c es → of k (merged (parts c.callers es)) ≡ of k es
merged_callers c es k l = (merged_same c es l).callers k

pub merged_objects : (c : Setup) (es : List Entry) (o : Object) → Legal c es → «at» o (merged (parts c.callers es)) ≡ «at» o es
merged_objects c es o l = (merged_same c es l).objects o

pub merged_told : (c : Setup) (es : List Entry) (k : ℕ) → Legal c es → told c k (merged (parts c.callers es)) ≡ told c k es
merged_told c es k l = same_told c (merged (parts c.callers es)) es k (merged_objects c es Latches l)

pub merged_had : (c : Setup) (es : List Entry) (k n w : ℕ) (o : Object) → Legal c es → Had c es k n o w
    → Had c (merged (parts c.callers es)) k n o w
merged_had c es k n w o l h = same_had c es (merged (parts c.callers es)) k n w o (same_objects c es l o) (sym (merged_callers c es k l)) h

pub merged_after : (c : Setup) (es : List Entry) → Legal c es → after c (merged (parts c.callers es)) ≡ after c es
merged_after c es l = sym (same_after c es (merged (parts c.callers es)) (same_objects c es l) l)

pub each_pick : (c : Setup) (es : List Entry) (n : ℕ) → Legal c es → n ≤ length es
    → length (merge_from n start (parts c.callers es)) ≡ n
each_pick c es n l le = picks_count n start c.callers es le (legal_placed c es l) (legal_within c es l)
