-- The numbers of a valid configuration.
use Rattle.std.proofs.Common.{◌≡◌, ℕ, ◌+◌, ◌≤◌, Bool, true, false, cond, leb, ◌||◌, Some, None, List, [], ◌∷◌, length, sum}
use Rattle.std.proofs.Common.{refl, arith}
use Rattle.std.specs.List.{AllByRecursion, position_from, list_all, list_any}
use Rattle.std.proofs.lemmas.Bool.{leb-false, leb-true, and_parts, or_parts}
use Rattle.std.proofs.lemmas.List.Sums.{sum_by-cons}
use Rattle.mv_config.specs.Setup.{Setup, SetupExit}
use Rattle.mv_config.specs.Check.{IsValid, first_limit, first_bad_owner, first_bad_exit, bad_budget, is_bad_exit, is_within}
use Rattle.mv_calls.proofs.TableFacts.{both_none, none_mapped}
use Rattle.mv_operationtext.specs.Ranges.{highest_u32}

abbrev pub AreU32 : List ℕ → Type 0
AreU32 ns = AllByRecursion (λ n. n ≤ highest_u32) ns

-- an exit with at least one target
pub record IsExit (x : SetupExit) : Type 0 where
  pub source : x.source ≤ highest_u32
  pub targets : AreU32 x.targets
  pub some : 1 ≤ length x.targets

pub record HasNumbers (c : Setup) : Type 0 where
  pub callers : c.callers ≤ highest_u32
  pub elements : c.elements_per_caller ≤ highest_u32
  pub volumes : c.volumes ≤ highest_u32
  pub latches : c.latches ≤ highest_u32
  pub quota : c.quota ≤ highest_u32
  pub posted : c.posted_quota ≤ highest_u32
  pub budgets : AreU32 c.budgets
  pub owners : AreU32 c.owners
  pub exits : AllByRecursion IsExit c.exits

pub record Passes (c : Setup) : Type 0 where
  pub limit : first_limit c ≡ None
  pub owner : first_bad_owner c ≡ None
  pub exit : first_bad_exit c ≡ None
  pub budget : bad_budget c ≡ None

pub passes : (c : Setup) → IsValid c → Passes c
passes c v =
    let one = both_none _ _ v in
    let two = both_none _ _ one.1 in
    let three = both_none _ _ two.1 in
    record {
      limit = none_mapped _ _ one.0;
      owner = none_mapped _ _ two.0;
      exit = none_mapped _ _ three.0;
      budget = none_mapped _ _ three.1;
    }

all_pass : {A : Type 0} (t : A → Bool) (i : ℕ) (xs : List A) → position_from t i xs ≡ None → AllByRecursion (λ x. t x ≡ false) xs
all_pass t i [] e = tt
all_pass t i (x ∷ xs) e = go (t x) refl e (λ h. all_pass t (i + 1) xs h) where
  go : (b : Bool) → t x ≡ b → cond b (Some i) (position_from t (i + 1) xs) ≡ None
      → (position_from t (i + 1) xs ≡ None → AllByRecursion (λ x. t x ≡ false) xs) → AllByRecursion (λ x. t x ≡ false) (x ∷ xs)
  go true tx h more = absurd cc
  go false tx h more = (tx, more h)

budgets_fit : (bs : List ℕ) → sum bs ≤ highest_u32 → AreU32 bs
budgets_fit [] h = tt
budgets_fit (b ∷ bs) h = (omega (arith, sum_by-cons (λ x. x) b bs), budgets_fit bs (omega (arith, sum_by-cons (λ x. x) b bs)))

owners_fit : (callers : ℕ) (os : List ℕ) → callers ≤ highest_u32 → AllByRecursion (λ o. leb callers o ≡ false) os → AreU32 os
owners_fit callers [] le h = tt
owners_fit callers (o ∷ os) le h = (omega (arith, leb-false callers o h.0), owners_fit callers os le h.1)

targets_fit : (ecbs source : ℕ) (ts : List ℕ) → ecbs ≤ highest_u32 → list_any (λ target. leb ecbs target || leb target source) ts ≡ false
    → AreU32 ts
targets_fit ecbs source [] le h = tt
targets_fit ecbs source (t ∷ ts) le h =
    let o = or_parts (leb ecbs t || leb t source) (list_any (λ target. leb ecbs target || leb target source) ts) h in
    let p = or_parts (leb ecbs t) (leb t source) o.0 in
    (omega (arith, leb-false ecbs t p.0), targets_fit ecbs source ts le o.1)

exits_fit : (ecbs : ℕ) (xs : List SetupExit) → ecbs ≤ highest_u32 → AllByRecursion (λ x. is_bad_exit ecbs x ≡ false) xs
    → list_all (λ x. is_within 1 8 (length x.targets)) xs ≡ true → AllByRecursion IsExit xs
exits_fit ecbs [] le h w = tt
exits_fit ecbs (x ∷ xs) le h w =
    let o = or_parts (leb ecbs x.source) (list_any (λ target. leb ecbs target || leb target x.source) x.targets) h.0 in
    let b = and_parts (is_within 1 8 (length x.targets)) (list_all (λ x. is_within 1 8 (length x.targets)) xs) w in
    let n = and_parts (leb 1 (length x.targets)) (leb (length x.targets) 8) b.0 in (
      record {
        source = omega (arith, leb-false ecbs x.source o.0);
        targets = targets_fit ecbs x.source x.targets le o.1;
        some = leb-true 1 (length x.targets) n.0;
      },
      exits_fit ecbs xs le h.1 b.1,
    )

few_targets : (c : Setup) → first_limit c ≡ None → list_all (λ x. is_within 1 8 (length x.targets)) c.exits ≡ true
few_targets c f = grind arith

pub counts_fit : (c : Setup) → first_limit c ≡ None
    → (c.callers ≤ 16) × (c.elements_per_caller ≤ 16) × (c.volumes ≤ 8) × (c.latches ≤ 8) × (c.quota ≤ 16) × (c.posted_quota ≤ 16) ×
    (length c.owners ≤ 131072)
counts_fit c f = (grind arith, grind arith, grind arith, grind arith, grind arith, grind arith, grind arith)

sum_fits : (c : Setup) → bad_budget c ≡ None → sum c.budgets ≤ 524287
sum_fits c b = grind arith

pub has_numbers : (c : Setup) → IsValid c → HasNumbers c
has_numbers c v =
    let p = passes c v in
    let f = counts_fit c p.limit in
    record {
      callers = omega (arith, f.0);
      elements = omega (arith, f.1);
      volumes = omega (arith, f.2);
      latches = omega (arith, f.3);
      quota = omega (arith, f.4);
      posted = omega (arith, f.5);
      budgets = budgets_fit c.budgets (omega (arith, sum_fits c p.budget));
      owners = owners_fit c.callers c.owners (omega (arith, f.0)) (all_pass (λ owner. leb c.callers owner) 0 c.owners p.owner);
      exits =
          exits_fit (length c.owners) c.exits (omega (arith, f.6)) (all_pass (is_bad_exit (length c.owners)) 1 c.exits p.exit)
          (few_targets c p.limit);
    }
