-- What a valid configuration keeps to, and what is enough for it to be valid.
use Rattle.std.proofs.Common.{◌≡◌, ℕ, zero, suc, ◌+◌, ◌<◌, ◌≤◌, nat_le, Bool, true, false, not, cond, List, [], ◌∷◌, length, slice_index_or}
use Rattle.std.proofs.Common.{Option, Some, None, option_map, find, sum, refl, ap, ◌∙◌, arith, if◌then◌else◌, nat_lt, ◌&&◌, ◌||◌}
use Rattle.std.specs.Prelude.{is_some}
use Rattle.std.specs.List.{AllByRecursion, list_any, position_from}
use Rattle.std.proofs.lemmas.Bool.{lt-leb, leb-false}
use Rattle.std.specs.Option.{option_or}
use Rattle.mv_config.specs.declared.config.ConfigLimit.{ConfigLimit}
use Rattle.mv_config.specs.Limits.{events_limit}
use Rattle.mv_config.specs.Setup.{Setup}
use Rattle.mv_config.specs.Check.{IsValid, keeps, limits, first_limit, first_bad_owner, first_bad_exit, bad_budget}
use Rattle.mv_config.specs.Check.{is_bad_exit, is_valid, refusal_of}
use Rattle.mv_config.specs.declared.config.CheckRefusal.{CheckRefusal}
use Rattle.mv_config.specs.declared.config.CheckRefusal.TheVariants.{Limit, BadOwner, BadExit, Budget}

pub no_bad_limit : (c : Setup) → IsValid c → first_limit c ≡ None
no_bad_limit c v = grind arith

pub callers_kept : (c : Setup) → IsValid c → (1 ≤ c.callers) × (c.callers ≤ 16)
callers_kept c v = let f : first_limit c ≡ None = no_bad_limit c v in grind arith

pub elements_kept : (c : Setup) → IsValid c → (1 ≤ c.elements_per_caller) × (c.elements_per_caller ≤ 16)
elements_kept c v = let f : first_limit c ≡ None = no_bad_limit c v in grind arith

-- the budgets allow no more events than a run may have
pub budgets_kept : (c : Setup) → IsValid c → sum c.budgets ≤ events_limit
budgets_kept c v = let b : bad_budget c ≡ None = grind arith in grind arith

-- where no owner is bad, each that is read is a caller
all_callers : (callers i d : ℕ) (owners : List ℕ) → position_from (λ owner. nat_le callers owner) i owners ≡ None
    → (n : ℕ) → n < length owners → slice_index_or owners n d < callers
all_callers callers i d [] none n lt = absurd (omega arith)
all_callers callers i d (owner ∷ owners) none n lt = go (nat_le callers owner) refl none (all_callers callers (i + 1) d owners) n lt where
  go : (b : Bool) → nat_le callers owner ≡ b → cond b (Some i) (position_from (λ z. nat_le callers z) (i + 1) owners) ≡ None
      → (position_from (λ z. nat_le callers z) (i + 1) owners ≡ None → (n : ℕ) → n < length owners → slice_index_or owners n d < callers)
      → (n : ℕ) → n < suc (length owners) → slice_index_or (owner ∷ owners) n d < callers
  go true e k ih n lt = absurd (cc k)
  go false e k ih zero lt = leb-false callers owner e
  go false e k ih (suc n) lt = ih k n (omega arith)

pub owner_is_caller : (c : Setup) (n d : ℕ) → IsValid c → n < length c.owners → slice_index_or c.owners n d < c.callers
owner_is_caller c n d v lt = let none : first_bad_owner c ≡ None = grind arith in all_callers c.callers 0 d c.owners none n lt

-- where each limit is kept, none is the first that is not
none_first : (c : Setup) (ls : List ConfigLimit) → AllByRecursion (λ l. keeps l c ≡ true) ls → find (λ l. not (keeps l c)) ls ≡ None
none_first c [] kept = refl
none_first c (l ∷ ls) kept = rw kept.0 (none_first c ls kept.1)

-- where each owner is a caller, none is bad
none_bad : (callers i : ℕ) (owners : List ℕ) → AllByRecursion (λ owner. owner < callers) owners
    → position_from (λ owner. nat_le callers owner) i owners ≡ None
none_bad callers i [] good = refl
none_bad callers i (owner ∷ owners) good = rw (lt-leb callers owner good.0) (none_bad callers (i + 1) owners good.1)

passes_all : (c : Setup) → first_limit c ≡ None → first_bad_owner c ≡ None → first_bad_exit c ≡ None → bad_budget c ≡ None → IsValid c
passes_all c l o x b = rw (l, o, x, b) refl

-- nothing refuses a configuration that keeps each limit, whose owners are callers, whose exits are none of them bad, and whose budgets
-- are no more events than a run may have
pub nothing_refuses : (c : Setup) → AllByRecursion (λ l. keeps l c ≡ true) limits → AllByRecursion (λ owner. owner < c.callers) c.owners
    → first_bad_exit c ≡ None → sum c.budgets ≤ events_limit → IsValid c
nothing_refuses c kept owners exits few = passes_all c (none_first c limits kept) (none_bad c.callers 0 c.owners owners) exits
    (ap (λ b. if b then Some (sum c.budgets) else None) (lt-leb (events_limit + 1) (sum c.budgets) (omega arith)))

-- ---- the same as a test

-- a search finds an element exactly if one passes the test
pub some_found : {A : Type 0} (test : A → Bool) (xs : List A) → is_some (find test xs) ≡ list_any test xs
some_found test [] = refl
some_found test (x ∷ xs) = go (test x) (some_found test xs) where
  go : (b : Bool) → is_some (find test xs) ≡ list_any test xs → is_some (cond b (Some x) (find test xs)) ≡ (b || list_any test xs)
  go true ih = refl
  go false ih = ih

-- and so does a search for its place
some_placed : {A : Type 0} (test : A → Bool) (i : ℕ) (xs : List A) → is_some (position_from test i xs) ≡ list_any test xs
some_placed test i [] = refl
some_placed test i (x ∷ xs) = go (test x) (some_placed test (i + 1) xs) where
  go : (b : Bool) → is_some (position_from test (i + 1) xs) ≡ list_any test xs
      → is_some (cond b (Some i) (position_from test (i + 1) xs)) ≡ (b || list_any test xs)
  go true ih = refl
  go false ih = ih

-- one more reason, if it is found
pub or_found : {A R : Type 0} (f : A → R) (x : Option A) (b : Bool) (o : Option R) (r : Bool) → is_some x ≡ b → is_some o ≡ not r
    → is_some (option_or (option_map f x) o) ≡ not (not b && r)
or_found f None false o r same e = e
or_found f None true o r same e = absurd (cc same)
or_found f (Some a) false o r same e = absurd (cc same)
or_found f (Some a) true o r same e = refl

last_found : (f : ℕ → CheckRefusal) (b : Bool) (n : ℕ) → is_some (option_map f (if b then Some n else None)) ≡ not (not b)
last_found f false n = refl
last_found f true n = refl

-- each of these limits is kept, and the rest holds
abbrev all_kept : Setup → List ConfigLimit → Bool → Bool
all_kept c [] r = r
all_kept c (l ∷ ls) r = keeps l c && all_kept c ls r

none_broken : (c : Setup) (ls : List ConfigLimit) (r : Bool) → (not (list_any (λ l. not (keeps l c)) ls) && r) ≡ all_kept c ls r
none_broken c [] r = refl
none_broken c (l ∷ ls) r = go (keeps l c) (none_broken c ls r) where
  go : (k : Bool) → (not (list_any (λ l. not (keeps l c)) ls) && r) ≡ all_kept c ls r
      → (not (not k || list_any (λ l. not (keeps l c)) ls) && r) ≡ (k && all_kept c ls r)
  go true e = e
  go false e = refl

-- a configuration is refused exactly if it is not valid
pub valid_is : (c : Setup) → is_some (refusal_of c) ≡ not (is_valid c)
valid_is c =
    let owners : Bool = list_any (λ owner. nat_le c.callers owner) c.owners in
    let exits : Bool = list_any (is_bad_exit (length c.owners)) c.exits in
    let high : Bool = nat_lt events_limit (sum c.budgets) in
    let o3 : Option CheckRefusal = option_map (λ b. Budget b) (bad_budget c) in
    let o2 : Option CheckRefusal = option_or (option_map (λ x. BadExit x) (first_bad_exit c)) o3 in
    let o1 : Option CheckRefusal = option_or (option_map (λ e. BadOwner e) (first_bad_owner c)) o2 in
    let r : Bool = not owners && (not exits && not high) in
    or_found (λ l. Limit l) (first_limit c) (list_any (λ l. not (keeps l c)) limits) o1 r (some_found (λ l. not (keeps l c)) limits)
    (or_found (λ e. BadOwner e) (first_bad_owner c) owners o2 (not exits && not high)
    (some_placed (λ owner. nat_le c.callers owner) 0 c.owners)
    (or_found (λ x. BadExit x) (first_bad_exit c) exits o3 (not high) (some_placed (is_bad_exit (length c.owners)) 1 c.exits)
    (last_found (λ b. Budget b) high (sum c.budgets))))
    ∙ ap not (none_broken c limits r)
