-- The reach of a block, by those of the blocks above it.
use Rattle.std.proofs.Common.{◌≡◌, ℕ, zero, suc, ◌+◌, ◌<◌, ◌≤◌, Bool, true, false, ◌&&◌, ◌||◌, ◌==◌, List, [], ◌∷◌, length, map, cond}
use Rattle.std.proofs.Common.{nat_le, get_or, take, max, ◌*◌, ◌++◌, Some, None, refl, sym, ap, ◌∙◌, arith}
use Rattle.std.specs.List.{AllByRecursion, list_all, list_any, position_from, range_with_len}
use Rattle.std.proofs.lemmas.Nat.{mul-le}
use Rattle.std.proofs.lemmas.List.{take_more}
use Rattle.std.proofs.lemmas.List.FromFn.{fill_by_all}
use Rattle.std.proofs.lemmas.Bool.{false≢true, true≢false, eqb-true}
use Rattle.mv_config.specs.Limits.{highest_reach}
use Rattle.mv_config.specs.declared.config.ConfigLimit.TheVariants.{Targets, Posted, Quota}
use Rattle.mv_config.specs.Chains.{HasFewGoodTargets, AreReaches}
use Rattle.mv_config.proofs.Elements.{all_map}
use Rattle.mv_config.proofs.Validity.{no_bad_limit}
use Rattle.mv_config.specs.Check.{IsValid, keeps, is_within, first_limit, first_bad_exit, is_bad_exit}
use Rattle.mv_config.specs.Reach.{cut, exits_of, greatest, total, reach_within, reach}
use Rattle.mv_config.specs.Setup.{Setup, SetupExit}

-- ---- in a valid configuration exits lead up
abbrev pub LeadsUp : ℕ → SetupExit → Type 0
LeadsUp n x = AllByRecursion (λ t. (x.source < t) × (t < n)) x.targets

good_targets : (n e : ℕ) (ts : List ℕ) → list_any (λ t. nat_le n t || nat_le t e) ts ≡ false → AllByRecursion (λ t. (e < t) × (t < n)) ts
good_targets n e [] h = tt
good_targets n e (t ∷ ts) h = go (nat_le n t) (nat_le t e) refl refl h (λ k. good_targets n e ts k) where
  go : (a b : Bool) → nat_le n t ≡ a → nat_le t e ≡ b → ((a || b) || list_any (λ t. nat_le n t || nat_le t e) ts) ≡ false
      → (list_any (λ t. nat_le n t || nat_le t e) ts ≡ false → AllByRecursion (λ t. (e < t) × (t < n)) ts) → ((e < t) × (t < n))
      × AllByRecursion (λ t. (e < t) × (t < n)) ts
  go true b ea eb k ih = absurd (true≢false k)
  go false true ea eb k ih = absurd (true≢false k)
  go false false ea eb k ih = ((grind arith, grind arith), ih k)

good_exit : (n : ℕ) (x : SetupExit) → is_bad_exit n x ≡ false → LeadsUp n x
good_exit n x h = go (nat_le n x.source) h where
  go : (a : Bool) → (a || list_any (λ t. nat_le n t || nat_le t x.source) x.targets) ≡ false → LeadsUp n x
  go true k = absurd (true≢false k)
  go false k = good_targets n x.source x.targets k

good_exits : (n i : ℕ) (xs : List SetupExit) → position_from (is_bad_exit n) i xs ≡ None → AllByRecursion (LeadsUp n) xs
good_exits n i [] h = tt
good_exits n i (x ∷ xs) h = go (is_bad_exit n x) refl h (λ k. good_exits n (i + 1) xs k) where
  go : (b : Bool) → is_bad_exit n x ≡ b → cond b (Some i) (position_from (is_bad_exit n) (i + 1) xs) ≡ None
      → (position_from (is_bad_exit n) (i + 1) xs ≡ None → AllByRecursion (LeadsUp n) xs) → LeadsUp n x × AllByRecursion (LeadsUp n) xs
  go true e k ih = absurd (cc k)
  go false e k ih = (good_exit n x e, ih k)

no_bad_exit : (c : Setup) → IsValid c → first_bad_exit c ≡ None
no_bad_exit c v = grind arith

pub all_lead_up : (c : Setup) → IsValid c → AllByRecursion (LeadsUp (length c.owners)) c.exits
all_lead_up c v = good_exits (length c.owners) 1 c.exits (no_bad_exit c v)

-- ---- sums and greatest numbers that agree term by term
pub same_total : (f g : ℕ → ℕ) (ts : List ℕ) → AllByRecursion (λ t. f t ≡ g t) ts → total f ts ≡ total g ts
same_total f g [] h = refl
same_total f g (t ∷ ts) h = let rest : total f ts ≡ total g ts = same_total f g ts h.1 in omega (arith, h.0)

pub same_greatest : (F G : SetupExit → ℕ) (e : ℕ) (xs : List SetupExit) → AllByRecursion (λ x. x.source ≡ e → F x ≡ G x) xs
    → greatest (map F (exits_of e xs)) ≡ greatest (map G (exits_of e xs))
same_greatest F G e [] h = refl
same_greatest F G e (x ∷ xs) h = go (x.source == e) refl (same_greatest F G e xs h.1) where
  go : (b : Bool) → (x.source == e) ≡ b → greatest (map F (exits_of e xs)) ≡ greatest (map G (exits_of e xs))
      → greatest (map F (cond b (x ∷ exits_of e xs) (exits_of e xs))) ≡ greatest (map G (cond b (x ∷ exits_of e xs) (exits_of e xs)))
  go true t ih = rw (h.0 (eqb-true x.source e t), ih) refl
  go false t ih = ih

-- ---- following exits deeper than the blocks above changes nothing
module _ (c : Setup) (up : AllByRecursion (LeadsUp (length c.owners)) c.exits) where
  pub deep_enough : (k m e : ℕ) → e < length c.owners → length c.owners ≤ e + k → length c.owners ≤ e + m
      → reach_within k c e ≡ reach_within m c e
  deep_enough zero m e lt lk lm = absurd (omega arith)
  deep_enough (suc k) zero e lt lk lm = absurd (omega arith)
  deep_enough (suc k) (suc m) e lt lk lm =
      ap (λ z. cut (1 + z))
      (same_greatest (λ x. total (reach_within k c) x.targets) (λ x. total (reach_within m c) x.targets) e c.exits
      (all_map (λ x h is. same_total (reach_within k c) (reach_within m c) x.targets
      (all_map (λ t w. deep_enough k m t w.1 (omega arith) (omega arith)) x.targets h)) c.exits up))

  pub reach_is : (e : ℕ) → e < length c.owners → reach c e ≡ cut (1 + greatest (map (λ x. total (reach c) x.targets) (exits_of e c.exits)))
  reach_is e lt =
      deep_enough (length c.owners) (suc (length c.owners)) e lt (omega arith) (omega arith)

-- ---- what the computing of reaches asks of the exits
few_targets : (xs : List SetupExit) → list_all (λ x. is_within 1 8 (length x.targets)) xs ≡ true
    → AllByRecursion (λ x. length x.targets ≤ 8) xs
few_targets [] h = tt
few_targets (x ∷ xs) h = go (is_within 1 8 (length x.targets)) refl h (λ k. few_targets xs k) where
  go : (b : Bool) → is_within 1 8 (length x.targets) ≡ b → (b && list_all (λ x. is_within 1 8 (length x.targets)) xs) ≡ true
      → (list_all (λ x. is_within 1 8 (length x.targets)) xs ≡ true → AllByRecursion (λ x. length x.targets ≤ 8) xs)
      → (length x.targets ≤ 8) × AllByRecursion (λ x. length x.targets ≤ 8) xs
  go true e k ih = (grind arith, ih k)
  go false e k ih = absurd (false≢true k)

targets_kept : (c : Setup) → first_limit c ≡ None → keeps Targets c ≡ true
targets_kept c f = grind arith

good_sources : (n i : ℕ) (xs : List SetupExit) → position_from (is_bad_exit n) i xs ≡ None → AllByRecursion (λ x. x.source < n) xs
good_sources n i [] h = tt
good_sources n i (x ∷ xs) h = go (is_bad_exit n x) refl h (λ k. good_sources n (i + 1) xs k) where
  source : (a : Bool) → nat_le n x.source ≡ a → (a || list_any (λ t. nat_le n t || nat_le t x.source) x.targets) ≡ false → x.source < n
  source true e k = absurd (true≢false k)
  source false e k = grind arith

  go : (b : Bool) → is_bad_exit n x ≡ b → cond b (Some i) (position_from (is_bad_exit n) (i + 1) xs) ≡ None
      → (position_from (is_bad_exit n) (i + 1) xs ≡ None → AllByRecursion (λ x. x.source < n) xs) → (x.source < n)
      × AllByRecursion (λ x. x.source < n) xs
  go true e k ih = absurd (cc k)
  go false e k ih = (source (nat_le n x.source) refl e, ih k)

joined : (n : ℕ) (xs : List SetupExit) → AllByRecursion (λ x. x.source < n) xs → AllByRecursion (λ x. length x.targets ≤ 8) xs
    → AllByRecursion (LeadsUp n) xs → AllByRecursion (HasFewGoodTargets n) xs
joined n [] s f u = tt
joined n (x ∷ xs) s f u = (
  record { source = s.0; few = f.0; good = all_map (λ t w. w.1) x.targets u.0 },
  joined n xs s.1 f.1 u.1,
)

pub all_good : (c : Setup) → IsValid c → AllByRecursion (HasFewGoodTargets (length c.owners)) c.exits
all_good c v =
    joined (length c.owners) c.exits (good_sources (length c.owners) 1 c.exits (no_bad_exit c v))
    (few_targets c.exits (targets_kept c (no_bad_limit c v))) (all_lead_up c v)

-- a table that is right above a block gives that block's reach
pub next_reach : (c : Setup) → IsValid c → (f : ℕ → ℕ) (e : ℕ) → e < length c.owners
    → ((t : ℕ) → e < t → t < length c.owners → f t ≡ reach c t)
    → cut (1 + greatest (map (λ x. total f x.targets) (exits_of e c.exits))) ≡ reach c e
next_reach c v f e lt right =
    ap (λ z. cut (1 + z))
    (same_greatest (λ x. total f x.targets) (λ x. total (reach c) x.targets) e c.exits
    (all_map (λ x h is. same_total f (reach c) x.targets (all_map (λ t w. right t (omega arith) w.1) x.targets h)) c.exits
    (all_lead_up c v)))
    ∙ sym (reach_is c (all_lead_up c v) e lt)

-- ---- reaches are cut, and the greatest of them
pub reach_cut : (k : ℕ) (c : Setup) (e : ℕ) → reach_within k c e ≤ highest_reach
reach_cut zero c e = omega arith
reach_cut (suc k) c e = omega arith

pub greatest-push : (ns : List ℕ) (k : ℕ) → greatest (ns ++ k ∷ []) ≡ max (greatest ns) k
greatest-push [] k = omega arith
greatest-push (n ∷ ns) k = let h : greatest (ns ++ k ∷ []) ≡ max (greatest ns) k = greatest-push ns k in omega arith

pub greatest_more : (ns : List ℕ) (i : ℕ) → i < length ns → greatest (take (i + 1) ns) ≡ max (greatest (take i ns)) (get_or ns i 0)
greatest_more ns i lt = ap greatest (take_more ns i 0 lt) ∙ greatest-push (take i ns) (get_or ns i 0)

pub reaches_are : (c : Setup) (ns : List ℕ) → AreReaches c ns → ns ≡ map (reach c) (range_with_len 0 (length c.owners))
reaches_are c ns r = fill_by_all (reach c) ns (length c.owners) 0 r.blocks r.reach

posted_kept : (c : Setup) → first_limit c ≡ None → keeps Posted c ≡ true
posted_kept c f = grind arith

quota_kept : (c : Setup) → first_limit c ≡ None → keeps Quota c ≡ true
quota_kept c f = grind arith

pub quotas_fit : (c : Setup) → IsValid c → c.posted_quota ≤ 16
quotas_fit c v =
    let p : keeps Posted c ≡ true = posted_kept c (no_bad_limit c v) in
    let q : keeps Quota c ≡ true = quota_kept c (no_bad_limit c v) in
    grind arith

pub product_fits : (a b m : ℕ) → a ≤ 16 → b ≤ 16 → m ≤ highest_reach → a * b * m ≤ 134217728
product_fits a b m la lb lm = mul-le (a * b) m 256 highest_reach (mul-le a b 16 16 la lb) lm
