-- The merge of the parts of a placed list has the same parts and the same entries at each object.
use Rattle.std.proofs.Common.{◌≡◌, ℕ, zero, suc, ◌+◌, ◌<◌, ◌≤◌, ◌≢◌, List, [], ◌∷◌, length, Some, sym, refl, ap, ◌∙◌, subst, arith}
use Rattle.std.proofs.Common.{eq-eqb, ne_eqb, le_refl}
use mathlib.Core.Logic.{dite}
use native.Mathlib.Decide.{ℕ_discrete}
use Rattle.mv_machine.specs.declared.entry.Entry.{Entry}
use Rattle.mv_machine.specs.declared.entry.Object.{Object}
use Rattle.mv_machine.specs.Legal.{of, «at»}
use Rattle.mv_machine.specs.Merge.{Places, risen, behind, pick, followed, merge_from}
use Rattle.mv_machine.specs.Parts.{parts_from, parts}
use Rattle.mv_machine.proofs.Places.{object_discrete, of_mine, of_other, at_mine, at_other, without, without_mine, without_other}
use Rattle.mv_machine.proofs.Places.{of_without, of_without_other, Placed, MayBeFirst, may_be_first}

-- the callers behind k keep their parts where k loses an entry
parts_skip : (n k from : ℕ) (es : List Entry) → k < from → parts_from from n (without k es) ≡ parts_from from n es
parts_skip zero k from es l = refl
parts_skip (suc n) k from es l = λ i.
    of_without_other k from es (λ e. absurd (omega arith)) i ∷ parts_skip n k (suc from) es (omega arith) i

-- one of the callers from k on gives its first entry
pub record Picks (p : Places) (n k : ℕ) (es : List Entry) : Type 0 where
  pub caller : ℕ
  pub entry : Entry
  pub later : List Entry
  pub from : k ≤ caller
  pub first : of caller es ≡ entry ∷ later
  pub place : entry.place ≡ p entry.object
  pub picks : pick p (parts_from k n es) ≡ Some (entry, parts_from k n (without caller es))

-- caller k's part is passed over
picks_behind : (p : Places) (n k : ℕ) (es : List Entry) (log : List Entry) → of k es ≡ log → Picks p n (suc k) es
    → pick p (log ∷ parts_from (suc k) n es) ≡ behind log (pick p (parts_from (suc k) n es)) → Picks p (suc n) k es
picks_behind p n k es log is r passes = record {
  caller = r.caller;
  entry = r.entry;
  later = r.later;
  from = (let f = r.from in omega arith);
  first = r.first;
  place = r.place;
  picks =
      let kept : log ≡ of k (without r.caller es) =
      sym is ∙ sym (of_without_other r.caller k es (let f = r.from in λ z. absurd (omega arith))) in
      ap (λ l. pick p (l ∷ parts_from (suc k) n es)) is
      ∙ passes
      ∙ ap (behind log) r.picks
      ∙ ap (λ (l : List Entry). Some (r.entry, l ∷ parts_from (suc k) n (without r.caller es))) kept;
}

-- caller d has a next entry with its object's next place; whether k gives one goes by its part
picks_here : (p : Places) (n k : ℕ) (es : List Entry) (d : ℕ) (e : Entry) (later : List Entry) → of d es ≡ e ∷ later
    → e.place ≡ p e.object → (k ≢ d → Picks p n (suc k) es)
    → (log : List Entry) → of k es ≡ log → Picks p (suc n) k es
picks_here p n k es d e later q ready ih [] is =
    picks_behind p n k es [] is (ih (λ z. let v : [] ≡ e ∷ later = sym is ∙ (ap (λ j. of j es) z ∙ q) in cc)) refl
picks_here p n k es d e later q ready ih (x ∷ xs) is = dite (ℕ_discrete x.place (p x.object))
    (λ m. let left = of_without k es x xs is in record {
      caller = k;
      entry = x;
      later = xs;
      from = le_refl k;
      first = is;
      place = m;
      picks =
          let gives : pick p ((x ∷ xs) ∷ parts_from (suc k) n es) ≡ Some (x, xs ∷ parts_from (suc k) n es) =
          rw (eq-eqb x.place (p x.object) m) in
          ap (λ l. pick p (l ∷ parts_from (suc k) n es)) is
          ∙ (gives ∙ (λ i. Some (x, sym left.rest i ∷ sym (parts_skip n k (suc k) es (omega arith)) i)));
    })
    (λ m. picks_behind p n k es (x ∷ xs) is
    (ih (λ z. let v : x ∷ xs ≡ e ∷ later = sym is ∙ (ap (λ j. of j es) z ∙ q) in let same : x ≡ e = cc in
    m (subst (λ (y : Entry). y.place ≡ p y.object) (sym same) ready)))
    (rw (ne_eqb x.place (p x.object) m)))

-- where one of n callers has such an entry, one is picked
some_picks : (p : Places) (n k : ℕ) (es : List Entry) (d : ℕ) (e : Entry) (later : List Entry) → of d es ≡ e ∷ later → k ≤ d
    → d < k + n → e.place ≡ p e.object → Picks p n k es
some_picks p zero k es d e later q low high ready = absurd (omega arith)
some_picks p (suc n) k es d e later q low high ready =
    picks_here p n k es d e later q ready (λ z. some_picks p n (suc k) es d e later q (omega arith) (omega arith) ready) (of k es) refl

-- each entry is of a caller below n
abbrev pub Within : ℕ → List Entry → Type 0
Within n [] = Unit {0}
Within n (e ∷ es) = (e.caller < n) × Within n es

within_without : (n k : ℕ) (es : List Entry) → Within n es → Within n (without k es)
within_without n k [] w = tt
within_without n k (x ∷ xs) w = dite (ℕ_discrete x.caller k)
    (λ m. rw (without_mine k x xs m) w.1)
    (λ m. rw (without_other k x xs m) (w.0, within_without n k xs w.1))

-- as long as there are entries, the first of all can be picked, so one is
pub first_picks : (p : Places) (n : ℕ) (x : Entry) (xs : List Entry) → Placed p (x ∷ xs) → Within n (x ∷ xs)
    → Picks p n 0 (x ∷ xs)
first_picks p n x xs s w =
    let within : x.caller < n = w.0 in
    some_picks p n 0 (x ∷ xs) x.caller x (of x.caller xs) (of_mine x.caller x xs refl) (omega arith) (omega arith) s.0

-- two lists with the same parts and the same entries at each object
pub record Same (fs es : List Entry) : Type 0 where
  pub callers : (k : ℕ) → of k fs ≡ of k es
  pub objects : (o : Object) → «at» o fs ≡ «at» o es

-- a picked entry, before a list that is the same as what it leaves
same_more : (p : Places) (n : ℕ) (es : List Entry) (r : Picks p n 0 es) (rest : List Entry) → Placed p es
    → Same rest (without r.caller es) → Same (r.entry ∷ rest) es
same_more p n es r rest s again =
    let left = of_without r.caller es r.entry r.later r.first in
    let moved : MayBeFirst p es r.entry (without r.caller es) = may_be_first p r.caller es r.entry r.later s r.first r.place in record {
      callers = λ k. dite (ℕ_discrete r.entry.caller k)
          (λ mine. of_mine k r.entry rest mine
          ∙ (ap (λ l. r.entry ∷ l) (again.callers k ∙ (ap (λ j. of j (without r.caller es)) (sym mine ∙ left.mine) ∙ left.rest))
          ∙ (sym r.first ∙ ap (λ j. of j es) (sym left.mine ∙ mine))))
          (λ other. of_other k r.entry rest other
          ∙ (again.callers k ∙ of_without_other r.caller k es (λ z. other (left.mine ∙ sym z))));
      objects = λ o. dite (object_discrete r.entry.object o)
          (λ mine. at_mine o r.entry rest mine
          ∙ (ap (λ l. r.entry ∷ l) (again.objects o)
          ∙ subst (λ z. r.entry ∷ «at» z (without r.caller es) ≡ «at» z es) mine (sym moved.here)))
          (λ other. at_other o r.entry rest other ∙ (again.objects o ∙ moved.elsewhere o (λ z. other (sym z))));
    }

-- one pick more
merge_more : (m : ℕ) (p : Places) (n : ℕ) (es : List Entry) (r : Picks p n 0 es)
    → merge_from (suc m) p (parts n es) ≡ r.entry ∷ merge_from m (risen p r.entry.object) (parts n (without r.caller es))
merge_more m p n es r = ap (followed (λ e rest. merge_from m (risen p e.object) rest)) r.picks

pub merges : (m : ℕ) (p : Places) (n : ℕ) (es : List Entry) → length es ≡ m → Placed p es → Within n es
    → Same (merge_from m p (parts n es)) es
merges zero p n [] l s w = record { callers = λ k. refl; objects = λ o. refl }
merges zero p n (x ∷ xs) l s w = absurd (omega arith)
merges (suc m) p n [] l s w = absurd (omega arith)
merges (suc m) p n (x ∷ xs) l s w =
    let r = first_picks p n x xs s w in
    let left = of_without r.caller (x ∷ xs) r.entry r.later r.first in
    let rest = without r.caller (x ∷ xs) in
    let moved = may_be_first p r.caller (x ∷ xs) r.entry r.later s r.first r.place in
    let fewer : length rest ≡ m = (let f = left.fewer in omega arith) in
    rw (merge_more m p n (x ∷ xs) r)
    (same_more p n (x ∷ xs) r (merge_from m (risen p r.entry.object) (parts n rest)) s
    (merges m (risen p r.entry.object) n rest fewer moved.placed (within_without n r.caller (x ∷ xs) w)))

-- each pick gives an entry, as long as there are some
pub picks_count : (m : ℕ) (p : Places) (n : ℕ) (es : List Entry) → m ≤ length es → Placed p es → Within n es
    → length (merge_from m p (parts n es)) ≡ m
picks_count zero p n es l s w = refl
picks_count (suc m) p n [] l s w = absurd (omega arith)
picks_count (suc m) p n (x ∷ xs) l s w =
    let r = first_picks p n x xs s w in
    let left = of_without r.caller (x ∷ xs) r.entry r.later r.first in
    let rest = without r.caller (x ∷ xs) in
    let moved = may_be_first p r.caller (x ∷ xs) r.entry r.later s r.first r.place in
    let enough : m ≤ length rest = (let f = left.fewer in omega arith) in
    ap length (merge_more m p n (x ∷ xs) r)
    ∙ ap suc (picks_count m (risen p r.entry.object) n rest enough moved.placed (within_without n r.caller (x ∷ xs) w))
