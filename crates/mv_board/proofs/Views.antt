-- Sums over the views, and what the logs in them are.
use Rattle.std.proofs.Common.{◌≡◌, ℕ, zero, suc, ◌+◌, ◌<◌, ◌≤◌, ◌≢◌, ◌⊎◌, Bool, true, false, not, cond, inl, inr, ⊎_elim, List, [], ◌∷◌}
use Rattle.std.proofs.Common.{◌++◌, length, set, get_or, filter, sym, refl, ap, ◌∙◌, subst, arith, eq-eqb, ne_eqb}
use Rattle.std.specs.List.{AllByRecursion}
use mathlib.Core.Logic.{dite}
use mathlib.Core.Option.{some, some-injective, some-ne-none}
use native.Mathlib.Decide.{ℕ_discrete, dec_lt}
use lib.ListN.{get_elem?}
use Rattle.atomic_table.proofs.Lists.{at_set, at_snoc}
use Rattle.mv_machine.specs.declared.entry.Entry.{Entry}
use Rattle.mv_machine.specs.Legal.{of}
use Rattle.mv_machine.specs.Parts.{parts_from, parts, KeepsBudgets}
use Rattle.mv_config.specs.Setup.{Setup}
use Rattle.mv_machine.proofs.Lists.{all_append}
use Rattle.mv_board.specs.declared.view.Part.{Part}
use Rattle.mv_board.specs.declared.view.View.{View}
use Rattle.mv_board.specs.Rule.{holders_in, holders, tally, made, log_in, all_parts, logs_from, IsPart, Logs}

-- ---- lists and views

-- what holds of all of a list holds so of those that do not meet a test
pub all_without : {A : Type 0} (P Q : A → Type 0) (test : A → Bool) (xs : List A) → ((x : A) → test x ≡ false → P x → Q x)
    → AllByRecursion P xs → AllByRecursion Q (filter (λ x. not (test x)) xs)
all_without P Q test [] f a = tt
all_without P Q test (x ∷ xs) f a = go (test x) refl (all_without P Q test xs f a.1) where
  go : (b : Bool) → test x ≡ b → AllByRecursion Q (filter (λ y. not (test y)) xs)
      → AllByRecursion Q (cond (not b) (x ∷ filter (λ y. not (test y)) xs) (filter (λ y. not (test y)) xs))
  go true is rest = rest
  go false is rest = (f x is a.0, rest)

-- what holds of each view after one is put for another
pub each_put : (vs : List View) (id : ℕ) (w : View) (P : View → Type 0) → P w
    → ((j : ℕ) (u : View) → j ≢ id → get_elem? vs j ≡ some u → P u)
    → (j : ℕ) (u : View) → get_elem? (set vs id w) j ≡ some u → P u
each_put vs id w P here others j u a = ⊎_elim
    (λ (t : (j ≡ id) × (w ≡ u)). subst P t.1 here)
    (λ (t : (j ≢ id) × (get_elem? vs j ≡ some u)). others j u t.0 t.1)
    (at_set vs id j w u a)

-- and with one more
pub each_push : (vs : List View) (w : View) (P : View → Type 0) → P w → ((j : ℕ) (u : View) → get_elem? vs j ≡ some u → P u)
    → (j : ℕ) (u : View) → get_elem? (vs ++ w ∷ []) j ≡ some u → P u
each_push vs w P here others j u a = ⊎_elim
    (λ (e : get_elem? vs j ≡ some u). others j u e)
    (λ (e : w ≡ u). subst P e here)
    (at_snoc vs w u j a)

pub put_there : (vs : List View) (id : ℕ) (v w : View) → get_elem? vs id ≡ some v → get_elem? (set vs id w) id ≡ some w
put_there [] id v w e = absurd (some-ne-none v (sym e))
put_there (x ∷ xs) zero v w e = refl
put_there (x ∷ xs) (suc id) v w e = put_there xs id v w e

-- ---- sums

pub tally_set : (f : View → ℕ) (vs : List View) (i : ℕ) (v w : View) → get_elem? vs i ≡ some v
    → tally f (set vs i w) + f v ≡ tally f vs + f w
tally_set f [] i v w e = absurd (some-ne-none v (sym e))
tally_set f (x ∷ xs) zero v w e = let a = ap f (some-injective x v e) in omega arith
tally_set f (x ∷ xs) (suc i) v w e = let r = tally_set f xs i v w e in omega arith

-- a sum with one view more
pub tally_push : (f : View → ℕ) (vs : List View) (w : View) → tally f (vs ++ w ∷ []) ≡ tally f vs + f w
tally_push f [] w = omega arith
tally_push f (x ∷ xs) w = let r = tally_push f xs w in omega arith

pub tally_at : (f : View → ℕ) (vs : List View) (i : ℕ) (v : View) → get_elem? vs i ≡ some v → f v ≤ tally f vs
tally_at f [] i v e = absurd (some-ne-none v (sym e))
tally_at f (x ∷ xs) zero v e = let a = ap f (some-injective x v e) in omega arith
tally_at f (x ∷ xs) (suc i) v e = let r = tally_at f xs i v e in omega arith

pub tally_two : (f : View → ℕ) (vs : List View) (i j : ℕ) (v u : View) → get_elem? vs i ≡ some v → get_elem? vs j ≡ some u → j ≢ i
    → f v + f u ≤ tally f vs
tally_two f [] i j v u e d n = absurd (some-ne-none v (sym e))
tally_two f (x ∷ xs) zero zero v u e d n = absurd (n refl)
tally_two f (x ∷ xs) zero (suc j) v u e d n = let a = ap f (some-injective x v e) in let r = tally_at f xs j u d in omega arith
tally_two f (x ∷ xs) (suc i) zero v u e d n = let a = ap f (some-injective x u d) in let r = tally_at f xs i v e in omega arith
tally_two f (x ∷ xs) (suc i) (suc j) v u e d n = let r = tally_two f xs i j v u e d (λ q. n (ap suc q)) in omega arith

-- ---- how many parts are one caller's

pub holders_mine : (k : ℕ) (p : Part) (ps : List Part) → p.caller ≡ k → holders_in k (p ∷ ps) ≡ suc (holders_in k ps)
holders_mine k p ps m = rw (eq-eqb p.caller k m) (omega arith)

pub holders_other : (k : ℕ) (p : Part) (ps : List Part) → p.caller ≢ k → holders_in k (p ∷ ps) ≡ holders_in k ps
holders_other k p ps m = rw (ne_eqb p.caller k m) (omega arith)

pub holders_append : (k : ℕ) (ps qs : List Part) → holders_in k (ps ++ qs) ≡ holders_in k ps + holders_in k qs
holders_append k [] qs = omega arith
holders_append k (p ∷ ps) qs = let r = holders_append k ps qs in omega arith

holders_all : (k : ℕ) (vs : List View) → holders_in k (all_parts vs) ≡ tally (holders k) vs
holders_all k [] = refl
holders_all k (v ∷ vs) = let a = holders_append k v.parts (all_parts vs) in let r = holders_all k vs in omega arith

-- what holds of parts that are not caller k's, where none is
pub parts_apart : (P Q : Part → Type 0) (k : ℕ) (ps : List Part) → holders_in k ps ≡ 0 → ((p : Part) → p.caller ≢ k → P p → Q p)
    → AllByRecursion P ps → AllByRecursion Q ps
parts_apart P Q k [] z f a = tt
parts_apart P Q k (p ∷ ps) z f a = (
  f p (λ m. let q = holders_mine k p ps m in absurd (omega arith)) a.0,
  parts_apart P Q k ps (dite (ℕ_discrete p.caller k)
      (λ m. let q = holders_mine k p ps m in absurd (omega arith))
      (λ m. let q = holders_other k p ps m in omega arith)) f a.1,
)

parts_all : (P : Part → Type 0) (vs : List View) → ((j : ℕ) (v : View) → get_elem? vs j ≡ some v → AllByRecursion P v.parts)
    → AllByRecursion P (all_parts vs)
parts_all P [] f = tt
parts_all P (v ∷ vs) f = all_append P v.parts (all_parts vs) (f 0 v refl) (parts_all P vs (λ j u e. f (suc j) u e))

-- ---- a caller's log among the parts

log_mine : (k : ℕ) (p : Part) (ps : List Part) → p.caller ≡ k → log_in k (p ∷ ps) ≡ p.log
log_mine k p ps m = rw (eq-eqb p.caller k m)

log_other : (k : ℕ) (p : Part) (ps : List Part) → p.caller ≢ k → log_in k (p ∷ ps) ≡ log_in k ps
log_other k p ps m = rw (ne_eqb p.caller k m)

-- it is the caller's part of the history, and within its budget, or there is none
abbrev Found : Setup → List Entry → ℕ → List Part → Type 0
Found c h k ps = ((log_in k ps ≡ of k h) × (length (of k h) ≤ get_or c.budgets k 0)) ⊎ ((log_in k ps ≡ []) × (holders_in k ps ≡ 0))

found_first : (c : Setup) (h : List Entry) (k : ℕ) (p : Part) (ps : List Part) → IsPart c h p → p.caller ≡ k → Found c h k (p ∷ ps)
found_first c h k p ps q m =
    let part : p.log ≡ of k h = q.logged ∙ ap (λ z. of z h) m in
    let l : length p.log ≡ length (of k h) = ap length part in
    let b : get_or c.budgets p.caller 0 ≡ get_or c.budgets k 0 = ap (λ z. get_or c.budgets z 0) m in
    let s = q.budget in
    inl (log_mine k p ps m ∙ part, (omega arith))

found : (c : Setup) (h : List Entry) (k : ℕ) (ps : List Part) → AllByRecursion (IsPart c h) ps → Found c h k ps
found c h k [] a = inr (refl, refl)
found c h k (p ∷ ps) a = dite (ℕ_discrete p.caller k)
    (λ m. found_first c h k p ps a.0 m)
    (λ m. ⊎_elim (λ r. inl (log_other k p ps m ∙ r.0, r.1)) (λ r. inr (log_other k p ps m ∙ r.0, holders_other k p ps m ∙ r.1))
    (found c h k ps a.1))

module _ (c : Setup) (vs : List View) (h : List Entry) (r : Logs c vs h) where
  found_all : (k : ℕ) → Found c h k (all_parts vs)
  found_all k = found c h k (all_parts vs) (parts_all (IsPart c h) vs (λ j v e. (r.known j v e).parts))

  not_made : (k : ℕ) → holders_in k (all_parts vs) ≡ 0 → made vs ≤ k
  not_made k z = dite (dec_lt k (made vs)) (λ (l : k < made vs). let a = r.one k l in let b = holders_all k vs in absurd (omega arith))
      (λ n. omega arith)

  log_is : (k : ℕ) → log_in k (all_parts vs) ≡ of k h
  log_is k = ⊎_elim (λ y. y.0) (λ y. y.0 ∙ sym (r.unmade k (not_made k y.1))) (found_all k)

  pub within_budget : (k : ℕ) → length (of k h) ≤ get_or c.budgets k 0
  within_budget k = ⊎_elim (λ y. y.1) (λ y. let e = ap length (sym (log_is k) ∙ y.0) in omega arith) (found_all k)

  pub keeps_budgets : KeepsBudgets c h
  keeps_budgets k l = within_budget k

  logs_are : (n k : ℕ) → logs_from k n vs ≡ parts_from k n h
  logs_are zero k = refl
  logs_are (suc n) k = λ i. log_is k i ∷ logs_are n (suc k) i

  pub logs_parts : logs_from 0 c.callers vs ≡ parts c.callers h
  logs_parts = logs_are c.callers 0
