-- A list is legal exactly where each object's part of it is.
use Rattle.std.proofs.Common.{◌≡◌, ℕ, Bool, true, false, List, [], ◌∷◌, ◌++◌, cond, refl, sym, ap, ◌∙◌, subst, ◌+◌, ◌==◌}
use Rattle.std.proofs.lemmas.List.Elements.{filter-append}
use Rattle.std.specs.List.{AllByRecursion}
use Rattle.mv_ecb.specs.Table.{ecb_step}
use Rattle.mv_element.specs.Table.{element_step}
use Rattle.mv_latch.specs.LatchSet.{latch_step}
use Rattle.std.proofs.lemmas.Bool.{false≢true, true≢false, eqb-true, eq-eqb}
use Rattle.mv_machine.specs.declared.entry.Object.{Object}
use Rattle.mv_machine.specs.declared.entry.Object.TheVariants.{Ecb, Element, Volume, Latches}
use Rattle.mv_machine.specs.declared.entry.Op.{Op}
use Rattle.mv_machine.specs.declared.entry.Op.TheVariants as op_on
use Rattle.mv_machine.specs.declared.entry.Reply.{Reply}
use Rattle.mv_machine.specs.declared.entry.Entry.{Entry}
use Rattle.mv_machine.specs.Told.{told_at, told_from}
use Rattle.mv_config.specs.Setup.{Setup}
use Rattle.mv_machine.specs.System.{System, moved, place_of, advanced, volume_step}
use Rattle.mv_machine.specs.Legal.{IsNext, next, after_from, LegalFrom, same_object, SameAt, of, «at», CountsFrom}
use Rattle.mv_machine.proofs.EntryRuns.{entry_of}
use Rattle.mv_machine.proofs.Histories.{place-moved, with_at-own, with_at-other}

pub same_flip : (o : Object) (s t : System) → SameAt o s t → SameAt o t s
same_flip (Ecb n) s t h = sym h
same_flip (Element n) s t h = sym h
same_flip (Volume n) s t h = sym h
same_flip Latches s t h = sym h

same_refl : (o : Object) (s : System) → SameAt o s s
same_refl (Ecb n) s = refl
same_refl (Element n) s = refl
same_refl (Volume n) s = refl
same_refl Latches s = refl

-- an entry looks at its own object alone
next_there : (c : Setup) (s t : System) (k : ℕ) (o : Object) (p : ℕ) (op : Op) (r : Reply) → SameAt o s t → IsNext c s (entry_of k o p op r)
    → IsNext c t (entry_of k o p op r) × SameAt o (moved s k o op) (moved t k o op)
next_there c s t k (Ecb n) p (op_on.Ecb op) r same h = (
  record { admits = h.admits; place = rw (← same) h.place; reply = rw (← same) h.reply },
  with_at-own s.ecb n _ ∙ ap (λ z. advanced z (ecb_step op z.state).0) same ∙ sym (with_at-own t.ecb n _),
)
next_there c s t k (Element n) p (op_on.Element op) r same h = (
  record { admits = h.admits; place = rw (← same) h.place; reply = rw (← same) h.reply },
  with_at-own s.element n _ ∙ ap (λ z. advanced z (element_step op z.state).0) same ∙ sym (with_at-own t.element n _),
)
next_there c s t k (Volume n) p (op_on.Volume op) r same h = (
  record { admits = h.admits; place = rw (← same) h.place; reply = rw (← same) h.reply },
  with_at-own s.volume n _ ∙ ap (λ z. advanced z (volume_step op z.state).0) same ∙ sym (with_at-own t.volume n _),
)
next_there c s t k Latches p (op_on.Latch op) r same h = (
  record { admits = rw (← same) h.admits; place = rw (← same) h.place; reply = rw (← same) h.reply },
  ap (λ z. advanced z (latch_step k z.place op z.state).0) same,
)
next_there c s t k o p op r same h = absurd (false≢true h.admits)

-- and changes it alone
pub elsewhere : (s : System) (k : ℕ) (o : Object) (op : Op) (q : Object) → same_object o q ≡ false → SameAt q (moved s k o op) s
elsewhere s k (Ecb n) (op_on.Ecb op) (Ecb m) d = with_at-other s.ecb n _ m (λ e. true≢false (sym (eq-eqb n m (sym e)) ∙ d))
elsewhere s k (Element n) (op_on.Element op) (Element m) d = with_at-other s.element n _ m (λ e. true≢false (sym (eq-eqb n m (sym e)) ∙ d))
elsewhere s k (Volume n) (op_on.Volume op) (Volume m) d = with_at-other s.volume n _ m (λ e. true≢false (sym (eq-eqb n m (sym e)) ∙ d))
elsewhere s k Latches (op_on.Latch op) Latches d = absurd (true≢false d)
elsewhere s k o op q d = same_refl q s

pub same_is : (o q : Object) → same_object o q ≡ true → o ≡ q
same_is (Ecb a) (Ecb b) e = ap (λ z. Ecb z) (eqb-true a b e)
same_is (Element a) (Element b) e = ap (λ z. Element z) (eqb-true a b e)
same_is (Volume a) (Volume b) e = ap (λ z. Volume z) (eqb-true a b e)
same_is Latches Latches e = refl
same_is o q e = absurd (false≢true e)

pub same_self : (o : Object) → same_object o o ≡ true
same_self (Ecb a) = eq-eqb a a refl
same_self (Element a) = eq-eqb a a refl
same_self (Volume a) = eq-eqb a a refl
same_self Latches = refl

-- all entries on one object
abbrev AllOn : Object → List Entry → Type 0
AllOn o es = AllByRecursion (λ e. e.object ≡ o) es

at_all_on : (o : Object) (es : List Entry) → AllOn o («at» o es)
at_all_on o [] = tt
at_all_on o (e ∷ es) = go (same_object e.object o) refl (at_all_on o es) where
  go : (b : Bool) → same_object e.object o ≡ b → AllOn o («at» o es) → AllOn o (cond b (e ∷ «at» o es) («at» o es))
  go true h ih = (same_is e.object o h, ih)
  go false h ih = ih

-- a list on one object is legal from any system with the same object
moved_over : (c : Setup) (s t : System) (o : Object) (es : List Entry) → AllOn o es → SameAt o s t → LegalFrom c s es → LegalFrom c t es
moved_over c s t o [] on same l = tt
moved_over c s t o (e ∷ es) on same l =
    let w : IsNext c t e × SameAt e.object (next s e) (next t e) = next_there c s t e.caller e.object e.place e.op e.reply
    (rw (on.0) same) l.0 in
    (w.0, moved_over c (next s e) (next t e) o es on.1 (subst (λ q. SameAt q (next s e) (next t e)) on.0 w.1) l.1)

-- each object's part of a legal list is legal
pub part_is_legal : (c : Setup) (s : System) (o : Object) (es : List Entry) → LegalFrom c s es → LegalFrom c s («at» o es)
part_is_legal c s o [] l = tt
part_is_legal c s o (e ∷ es) l = go (same_object e.object o) refl (part_is_legal c (next s e) o es l.1) where
  go : (b : Bool) → same_object e.object o ≡ b → LegalFrom c (next s e) («at» o es) → LegalFrom c s (cond b (e ∷ «at» o es) («at» o es))
  go true h ih = (l.0, ih)
  go false h ih = moved_over c (next s e) s o («at» o es) (at_all_on o es) (elsewhere s e.caller e.object e.op o h) ih

abbrev pub LegalParts : Setup → System → List Entry → Type 0
LegalParts c s es = (o : Object) → LegalFrom c s («at» o es)

at_hit : (e : Entry) (o : Object) (es : List Entry) → same_object e.object o ≡ true → «at» o (e ∷ es) ≡ e ∷ «at» o es
at_hit e o es h = rw h

at_miss : (e : Entry) (o : Object) (es : List Entry) → same_object e.object o ≡ false → «at» o (e ∷ es) ≡ «at» o es
at_miss e o es h = rw h

rest_of_part : (c : Setup) (s : System) (e : Entry) (es : List Entry) → LegalParts c s (e ∷ es) → (o : Object) (b : Bool)
    → same_object e.object o ≡ b → LegalFrom c (next s e) («at» o es)
rest_of_part c s e es p o true h = (rw (at_hit e o es h) at (p o)).1
rest_of_part c s e es p o false h = moved_over c s (next s e) o («at» o es) (at_all_on o es)
    (same_flip o (next s e) s (elsewhere s e.caller e.object e.op o h)) (rw (at_miss e o es h) at (p o))

-- and a list is legal where each object's part is
pub legal_from_parts : (c : Setup) (s : System) (es : List Entry) → LegalParts c s es → LegalFrom c s es
legal_from_parts c s [] p = tt
legal_from_parts c s (e ∷ es) p = (
  (rw (at_hit e e.object es (same_self e.object)) at (p e.object)).0,
  legal_from_parts c (next s e) es (λ o. rest_of_part c s e es p o (same_object e.object o) refl),
)

-- so only the order at each object matters
pub same_parts_legal : (c : Setup) (s : System) (es fs : List Entry) → ((o : Object) → «at» o es ≡ «at» o fs) → LegalFrom c s es
    → LegalFrom c s fs
same_parts_legal c s es fs same l = legal_from_parts c s fs (λ o. rw (same o) at (part_is_legal c s o es l))

-- ---- what a caller was told goes by the latch set's own part
told_at-same : (s t : System) (me k : ℕ) (o : Object) (op : Op) → s.latches ≡ t.latches → told_at s me k o op ≡ told_at t me k o op
told_at-same s t me k Latches (op_on.Latch op) same = rw same refl
told_at-same s t me k o op same = refl

latches-same : (s t : System) (k : ℕ) (o : Object) (op : Op) → s.latches ≡ t.latches → (moved s k o op).latches ≡ (moved t k o op).latches
latches-same s t k Latches (op_on.Latch op) same = ap (λ z. advanced z (latch_step k z.place op z.state).0) same
latches-same s t k (Ecb n) (op_on.Ecb op) same = same
latches-same s t k (Element n) (op_on.Element op) same = same
latches-same s t k (Volume n) (op_on.Volume op) same = same
latches-same s t k o op same = same

told-same : (s t : System) (me : ℕ) (es : List Entry) → s.latches ≡ t.latches → told_from s me es ≡ told_from t me es
told-same s t me [] same = refl
told-same s t me (e ∷ es) same =
    rw (
      told_at-same s t me e.caller e.object e.op same,
      told-same (next s e) (next t e) me es
          (latches-same s t e.caller e.object e.op same),
    ) refl

none_told : (s : System) (me k : ℕ) (o : Object) (op : Op) → same_object o Latches ≡ false → told_at s me k o op ≡ []
none_told s me k Latches op d = absurd (true≢false d)
none_told s me k o op d = refl

pub told_by_part : (s : System) (me : ℕ) (es : List Entry) → told_from s me es ≡ told_from s me («at» Latches es)
told_by_part s me [] = refl
told_by_part s me (e ∷ es) = go (same_object e.object Latches) refl (told_by_part (next s e) me es) where
  go : (b : Bool) → same_object e.object Latches ≡ b → told_from (next s e) me es ≡ told_from (next s e) me («at» Latches es)
      → told_from s me (e ∷ es) ≡ told_from s me (cond b (e ∷ «at» Latches es) («at» Latches es))
  go true h ih = ap (λ ws. told_at s me e.caller e.object e.op ++ ws) ih
  go false h ih = rw (none_told s me e.caller e.object e.op h)
      (ih ∙ told-same (next s e) s me («at» Latches es) (elsewhere s e.caller e.object e.op Latches h))

-- ---- where a list leads at an object, its part at that object leads
pub same_trans : (o : Object) (s t v : System) → SameAt o s t → SameAt o t v → SameAt o s v
same_trans (Ecb n) s t v a b = a ∙ b
same_trans (Element n) s t v a b = a ∙ b
same_trans (Volume n) s t v a b = a ∙ b
same_trans Latches s t v a b = a ∙ b

after_over : (c : Setup) (s t : System) (o : Object) (es : List Entry) → AllOn o es → SameAt o s t → LegalFrom c s es
    → SameAt o (after_from s es) (after_from t es)
after_over c s t o [] on same l = same
after_over c s t o (e ∷ es) on same l =
    let w : IsNext c t e × SameAt e.object (next s e) (next t e) = next_there c s t e.caller e.object e.place e.op e.reply
    (rw (on.0) same) l.0 in
    after_over c (next s e) (next t e) o es on.1 (subst (λ q. SameAt q (next s e) (next t e)) on.0 w.1) l.1

pub after_part : (c : Setup) (s : System) (o : Object) (es : List Entry) → LegalFrom c s es
    → SameAt o (after_from s es) (after_from s («at» o es))
after_part c s o [] l = same_refl o s
after_part c s o (e ∷ es) l = go (same_object e.object o) refl (after_part c (next s e) o es l.1) where
  go : (b : Bool) → same_object e.object o ≡ b → SameAt o (after_from (next s e) es) (after_from (next s e) («at» o es))
      → SameAt o (after_from (next s e) es) (after_from s (cond b (e ∷ «at» o es) («at» o es)))
  go true h ih = ih
  go false h ih =
      same_trans o (after_from (next s e) es) (after_from (next s e) («at» o es)) (after_from s («at» o es)) ih
      (after_over c (next s e) s o («at» o es) (at_all_on o es) (elsewhere s e.caller e.object e.op o h)
      (part_is_legal c (next s e) o es l.1))

-- ---- parts of appended lists, and the places in a part
pub of-append : (k : ℕ) (xs ys : List Entry) → of k (xs ++ ys) ≡ of k xs ++ of k ys
of-append k xs ys = filter-append (λ e. e.caller == k) xs ys

pub at-append : (o : Object) (xs ys : List Entry) → «at» o (xs ++ ys) ≡ «at» o xs ++ «at» o ys
at-append o xs ys = filter-append (λ e. same_object e.object o) xs ys

pub at_counts : (c : Setup) (s : System) (o : Object) (es : List Entry) → LegalFrom c s es → CountsFrom (place_of s o) («at» o es)
at_counts c s o [] l = tt
at_counts c s o (e ∷ es) l = go (same_object e.object o) refl (at_counts c (next s e) o es l.1) where
  go : (b : Bool) → same_object e.object o ≡ b → CountsFrom (place_of (next s e) o) («at» o es)
      → CountsFrom (place_of s o) (cond b (e ∷ «at» o es) («at» o es))
  go true h ih = (
    l.0.place ∙ ap (λ q. place_of s q) (same_is e.object o h),
    subst (λ p. CountsFrom p («at» o es)) (place-moved c s e.caller e.object e.place e.op e.reply o l.0
        ∙ ap (λ b. cond b (place_of s o + 1) (place_of s o)) h) ih,
  )
  go false h ih =
      subst (λ p. CountsFrom p («at» o es)) (place-moved c s e.caller e.object e.place e.op e.reply o l.0
      ∙ ap (λ b. cond b (place_of s o + 1) (place_of s o)) h) ih
