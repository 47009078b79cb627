-- The places of a list's entries, and the list without a caller's first one.
use Rattle.std.proofs.Common.{◌≡◌, ℕ, suc, ◌+◌, ◌≤◌, ◌≢◌, Bool, true, false, cond, eqb, List, [], ◌∷◌, ◌++◌, length, inl, inr, sym, refl}
use Rattle.std.proofs.Common.{ap, ◌∙◌, subst, arith, append-nil, eq-eqb, ne_eqb, le_refl}
use Rattle.std.proofs.lemmas.Bool.{cases_Bool, true≢false}
use mathlib.Core.Logic.{dite}
use native.Mathlib.Decide.{ℕ_discrete}
use Rattle.mv_machine.specs.declared.entry.Entry.{Entry}
use Rattle.mv_machine.specs.declared.entry.Object.{Object}
use Rattle.mv_machine.specs.Legal.{same_object, of, «at»}
use Rattle.mv_machine.specs.Merge.{Places, risen}
use Rattle.mv_machine.proofs.Objects.{of-append, same_is, same_self}

-- ---- objects are one or not
pub object_discrete : (a b : Object) → Dec (a ≡ b)
object_discrete a b = elim (cases_Bool (same_object a b)) [
  | inl y ↦ yes (same_is a b y)
  | inr n ↦ no (λ e. true≢false (sym (rw e (same_self b)) ∙ n))
]

pub same_hit : (a b : Object) → a ≡ b → same_object a b ≡ true
same_hit a b e = rw e (same_self b)

pub same_miss : (a b : Object) → a ≢ b → same_object a b ≡ false
same_miss a b n = elim (cases_Bool (same_object a b)) [ inl y ↦ absurd (n (same_is a b y)) | inr f ↦ f ]

-- ---- a caller's part and an object's part, by their first entry
pub of_mine : (k : ℕ) (e : Entry) (es : List Entry) → e.caller ≡ k → of k (e ∷ es) ≡ e ∷ of k es
of_mine k e es h = rw (eq-eqb e.caller k h)

pub of_other : (k : ℕ) (e : Entry) (es : List Entry) → e.caller ≢ k → of k (e ∷ es) ≡ of k es
of_other k e es h = rw (ne_eqb e.caller k h)

-- and by their last
pub of_longer_mine : (k : ℕ) (es : List Entry) (e : Entry) → e.caller ≡ k → of k (es ++ e ∷ []) ≡ of k es ++ e ∷ []
of_longer_mine k es e mine = of-append k es (e ∷ []) ∙ ap (λ z. of k es ++ z) (of_mine k e [] mine)

pub of_longer_other : (k : ℕ) (es : List Entry) (e : Entry) → e.caller ≢ k → of k (es ++ e ∷ []) ≡ of k es
of_longer_other k es e other = of-append k es (e ∷ []) ∙ (ap (λ z. of k es ++ z) (of_other k e [] other) ∙ append-nil (of k es))

pub at_mine : (o : Object) (e : Entry) (es : List Entry) → e.object ≡ o → «at» o (e ∷ es) ≡ e ∷ «at» o es
at_mine o e es h = rw (same_hit e.object o h)

pub at_other : (o : Object) (e : Entry) (es : List Entry) → e.object ≢ o → «at» o (e ∷ es) ≡ «at» o es
at_other o e es h = rw (same_miss e.object o h)

-- ---- next places
pub risen_here : (p : Places) (o q : Object) → q ≡ o → risen p o q ≡ p q + 1
risen_here p o q h = rw (same_hit q o h)

pub risen_else : (p : Places) (o q : Object) → q ≢ o → risen p o q ≡ p q
risen_else p o q h = rw (same_miss q o h)

-- no place falls, and each rises by one at most
risen_up : (p : Places) (o q : Object) → p q ≤ risen p o q
risen_up p o q = dite (object_discrete q o) (λ e. rw (risen_here p o q e) (omega arith)) (λ n. rw (risen_else p o q n) (le_refl (p q)))

two_rises : (a b : Bool) (n : ℕ) → cond a (cond b (n + 1) n + 1) (cond b (n + 1) n) ≡ cond b (cond a (n + 1) n + 1) (cond a (n + 1) n)
two_rises true true n = refl
two_rises true false n = refl
two_rises false true n = refl
two_rises false false n = refl

-- the order of two rises does not matter
risen_swap : (p : Places) (a b : Object) → risen (risen p a) b ≡ risen (risen p b) a
risen_swap p a b = λ i q. two_rises (same_object q b) (same_object q a) (p q) i

-- ---- a list without the first entry of caller k
abbrev pub without : ℕ → List Entry → List Entry
without k [] = []
without k (e ∷ es) = cond (eqb e.caller k) es (e ∷ without k es)

pub without_mine : (k : ℕ) (e : Entry) (es : List Entry) → e.caller ≡ k → without k (e ∷ es) ≡ es
without_mine k e es h = rw (eq-eqb e.caller k h)

pub without_other : (k : ℕ) (e : Entry) (es : List Entry) → e.caller ≢ k → without k (e ∷ es) ≡ e ∷ without k es
without_other k e es h = rw (ne_eqb e.caller k h)

-- what it leaves of that caller, and how much of all
pub record Leaves (k : ℕ) (es : List Entry) (e : Entry) (later : List Entry) : Type 0 where
  pub mine : e.caller ≡ k
  pub rest : of k (without k es) ≡ later
  pub fewer : length es ≡ suc (length (without k es))

pub of_without : (k : ℕ) (es : List Entry) (e : Entry) (later : List Entry) → of k es ≡ e ∷ later → Leaves k es e later
of_without k [] e later h = cc
of_without k (x ∷ xs) e later h = dite (ℕ_discrete x.caller k)
    (λ m. let q : x ∷ of k xs ≡ e ∷ later = sym (of_mine k x xs m) ∙ h in let first : x ≡ e = cc in
    let t : of k xs ≡ later = cc in record {
      mine = ap (λ (z : Entry). z.caller) (sym first) ∙ m;
      rest = ap (of k) (without_mine k x xs m) ∙ t;
      fewer = ap (λ (l : List Entry). suc (length l)) (sym (without_mine k x xs m));
    })
    (λ n. let r = of_without k xs e later (sym (of_other k x xs n) ∙ h) in record {
      mine = r.mine;
      rest = ap (of k) (without_other k x xs n) ∙ (of_other k x (without k xs) n ∙ r.rest);
      fewer = ap suc r.fewer ∙ ap (λ (l : List Entry). suc (length l)) (sym (without_other k x xs n));
    })

-- other callers keep theirs
pub of_without_other : (k d : ℕ) (es : List Entry) → d ≢ k → of d (without k es) ≡ of d es
of_without_other k d [] h = refl
of_without_other k d (x ∷ xs) h = dite (ℕ_discrete x.caller k)
    (λ m. ap (of d) (without_mine k x xs m) ∙ sym (of_other d x xs (λ q. h (sym q ∙ m))))
    (λ n. ap (of d) (without_other k x xs n) ∙ dite (ℕ_discrete x.caller d)
    (λ m. of_mine d x (without k xs) m ∙ (ap (λ l. x ∷ l) (of_without_other k d xs h) ∙ sym (of_mine d x xs m)))
    (λ o. of_other d x (without k xs) o ∙ (of_without_other k d xs h ∙ sym (of_other d x xs o))))

-- ---- the entries have their objects' places, from these on
abbrev pub Placed : Places → List Entry → Type 0
Placed p [] = Unit {0}
Placed p (e ∷ es) = (e.place ≡ p e.object) × Placed (risen p e.object) es

-- a caller's first entry has no place below its object's next one
placed_le : (p : Places) (k : ℕ) (es : List Entry) (e : Entry) (later : List Entry) → Placed p es → of k es ≡ e ∷ later
    → p e.object ≤ e.place
placed_le p k [] e later s h = cc
placed_le p k (x ∷ xs) e later s h = dite (ℕ_discrete x.caller k)
    (λ m. let q : x ∷ of k xs ≡ e ∷ later = sym (of_mine k x xs m) ∙ h in let first : x ≡ e = cc in
    subst (λ (z : Entry). p z.object ≤ z.place) first (let a = s.0 in omega arith))
    (λ n. let r = placed_le (risen p x.object) k xs e later s.1 (sym (of_other k x xs n) ∙ h) in
    let u = risen_up p x.object e.object in omega arith)

-- a caller's next entry that has its object's next place may as well be the first of all
pub record MayBeFirst (p : Places) (es : List Entry) (e : Entry) (rest : List Entry) : Type 0 where
  pub here : «at» e.object es ≡ e ∷ «at» e.object rest
  pub elsewhere : (o : Object) → o ≢ e.object → «at» o rest ≡ «at» o es
  pub placed : Placed (risen p e.object) rest

pub may_be_first : (p : Places) (k : ℕ) (es : List Entry) (e : Entry) (later : List Entry) → Placed p es → of k es ≡ e ∷ later
    → e.place ≡ p e.object → MayBeFirst p es e (without k es)
may_be_first p k [] e later s h a = cc
may_be_first p k (x ∷ xs) e later s h a = dite (ℕ_discrete x.caller k)
    (λ m. let q : x ∷ of k xs ≡ e ∷ later = sym (of_mine k x xs m) ∙ h in let first : x ≡ e = cc in
    let mine : MayBeFirst p (x ∷ xs) x xs = record {
      here = at_mine x.object x xs refl;
      elsewhere = λ o n. sym (at_other o x xs (λ z. n (sym z)));
      placed = s.1;
    } in
    subst (λ (z : Entry × List Entry). MayBeFirst p (x ∷ xs) z.0 z.1) (λ i. (first i, sym (without_mine k x xs m) i)) mine)
    (λ n. let t : of k xs ≡ e ∷ later = sym (of_other k x xs n) ∙ h in
    let low = placed_le (risen p x.object) k xs e later s.1 t in
    let apart : x.object ≢ e.object = (λ q. let u = risen_here p x.object e.object (sym q) in absurd (omega arith)) in
    let same = risen_else p x.object e.object (λ q. apart (sym q)) in
    let r = may_be_first (risen p x.object) k xs e later s.1 t (a ∙ sym same) in
    subst (λ (l : List Entry). MayBeFirst p (x ∷ xs) e l) (sym (without_other k x xs n)) record {
      here = at_other e.object x xs apart ∙ (r.here ∙ ap (λ l. e ∷ l) (sym (at_other e.object x (without k xs) apart)));
      elsewhere = λ o m. dite (object_discrete x.object o)
          (λ i. at_mine o x (without k xs) i ∙ (ap (λ l. x ∷ l) (r.elsewhere o m) ∙ sym (at_mine o x xs i)))
          (λ i. at_other o x (without k xs) i ∙ (r.elsewhere o m ∙ sym (at_other o x xs i)));
      placed = (
        s.0 ∙ sym (risen_else p e.object x.object apart),
        subst (λ (f : Places). Placed f (without k xs)) (risen_swap p x.object e.object) r.placed,
      );
    })
