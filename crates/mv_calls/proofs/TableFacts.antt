-- What a table keeps to that nothing refuses.
use Rattle.std.proofs.Common.{◌≡◌, ℕ, zero, suc, ◌+◌, ◌==◌, ◌<◌, ◌≤◌, nat_lt, not, Bool, true, false, ◌&&◌, ◌||◌, List, [], ◌∷◌, ◌++◌}
use Rattle.std.proofs.Common.{length, map, find, cond, Option, Some, None, option_map, refl, sym, ap, ◌∙◌, arith}
use Rattle.std.proofs.lemmas.List.Folds.{find-append}
use Rattle.std.proofs.lemmas.Bool.{eqb-true}
use Rattle.std.specs.List.{list_any, range_with_len}
use Rattle.std.specs.Option.{option_or}
use Rattle.std.specs.Prelude.{is_some}
use Rattle.mv_config.specs.Check.{is_within}
use Rattle.mv_config.specs.Reach.{reach, reach_within, exits_of, greatest, total, cut}
use Rattle.mv_config.specs.Setup.{Setup, SetupExit, owner_of, is_on, is_on_exit}
use Rattle.mv_config.proofs.Validity.{some_found, or_found}
use Rattle.mv_calls.specs.declared.table.Table.{Table}
use Rattle.mv_calls.specs.declared.table.TableRefusal.{TableRefusal}
use Rattle.mv_calls.specs.declared.table.TableRefusal.TheVariants.{BadSize, BadRange, NotOwner, BadLatch, BadVolume, HasExit}
use Rattle.mv_calls.specs.Table.{table_limit, event_block, slot_block, blocks_of_table, passes, meet, is_bad_range}
use Rattle.mv_calls.specs.Table.{first_of_others, first_with_exit, table_refused_if, table_refusal, can_have, IsTableOf, IsSoundTable}

-- ---- the list of refusals, one by one

pub both_none : {A : Type 0} (a b : Option A) → option_or a b ≡ None → (a ≡ None) × (b ≡ None)
both_none None b e = (refl, e)
both_none (Some a) b e = absurd (cc e)

not_refused : (b : Bool) (why : TableRefusal) → table_refused_if b why ≡ None → b ≡ false
not_refused false why e = refl
not_refused true why e = absurd (cc e)

pub none_mapped : {A B : Type 0} (f : A → B) (x : Option A) → option_map f x ≡ None → x ≡ None
none_mapped f None e = refl
none_mapped f (Some a) e = absurd (cc e)

not_false : (b : Bool) → not b ≡ false → b ≡ true
not_false true e = refl
not_false false e = absurd (cc e)

-- ---- a test that no block of the table meets

head_fails : (b : Bool) (a : ℕ) (x : Option ℕ) → cond b (Some a) x ≡ None → (b ≡ false) × (x ≡ None)
head_fails false a x e = (refl, e)
head_fails true a x e = absurd (cc e)

none_in_range : (test : ℕ → Bool) (a n i : ℕ) → find test (range_with_len a n) ≡ None → i < n → test (a + i) ≡ false
none_in_range test a zero i e lt = absurd (omega arith)
none_in_range test a (suc n) zero e lt =
    let same : a + 0 ≡ a = omega arith in
    ap test same ∙ (head_fails (test a) a (find test (range_with_len (a + 1) n)) e).0
none_in_range test a (suc n) (suc i) e lt =
    let same : a + suc i ≡ (a + 1) + i = omega arith in
    ap test same ∙ none_in_range test (a + 1) n i (head_fails (test a) a (find test (range_with_len (a + 1) n)) e).1 (omega arith)

none_in_both : (x y : Option ℕ) → option_or x y ≡ None → (x ≡ None) × (y ≡ None)
none_in_both None y e = (refl, e)
none_in_both (Some a) y e = absurd (cc e)

none_in_ranges : (test : ℕ → Bool) (a b n i : ℕ) → find test (range_with_len a n ++ range_with_len b n) ≡ None → i < n
    → (test (a + i) ≡ false) × (test (b + i) ≡ false)
none_in_ranges test a b n i e lt =
    let parts = none_in_both (find test (range_with_len a n)) (find test (range_with_len b n))
    (sym (find-append test (range_with_len a n) (range_with_len b n)) ∙ e) in
    (none_in_range test a n i parts.0 lt, none_in_range test b n i parts.1 lt)

none_in_table : (test : ℕ → Bool) (t : Table) (i : ℕ) → find test (blocks_of_table t) ≡ None → i < t.size
    → (test (event_block t i) ≡ false) × (test (slot_block t i) ≡ false)
none_in_table test t i none lt = go (nat_lt t.events t.slots) none where
  go : (b : Bool) → find test (cond b (range_with_len t.events t.size ++ range_with_len t.slots t.size)
      (range_with_len t.slots t.size ++ range_with_len t.events t.size)) ≡ None
      → (test (event_block t i) ≡ false) × (test (slot_block t i) ≡ false)
  go true e = none_in_ranges test t.events t.slots t.size i e lt
  go false e = let both = none_in_ranges test t.slots t.events t.size i e lt in (both.1, both.0)

-- ---- ranges

either_fails : (a b : Bool) → a || b ≡ false → (a ≡ false) × (b ≡ false)
either_fails false b e = (refl, e)
either_fails true b e = absurd (cc e)

within_sizes : (low high n : ℕ) → not (is_within low high n) ≡ false → (low ≤ n) × (n ≤ high)
within_sizes low high n e = grind arith

not_past : (c : Setup) (first size : ℕ) → passes c first size ≡ false → first + size ≤ length c.owners
not_past c first size e = grind arith

keep_apart : (a b n i k : ℕ) → meet a b n ≡ false → i < n → k < n → a + i ≡ b + k → ⊥
keep_apart a b n i k e lt lu same = grind arith

below : (a b : ℕ) → not (nat_lt a b) ≡ false → a < b
below a b e = grind arith

-- ---- the table

pub checked_is_sound : (c : Setup) (t : Table) → IsTableOf c t → IsSoundTable c t
checked_is_sound c t e =
    let one = both_none (table_refused_if (not (is_within 1 table_limit t.size)) BadSize) _ e in
    let two = both_none (table_refused_if (is_bad_range c t) BadRange) _ one.1 in
    let three = both_none (option_map (λ n. NotOwner n) (first_of_others c t)) _ two.1 in
    let four = both_none (table_refused_if (not (nat_lt t.latch c.latches)) BadLatch) _ three.1 in
    let five = both_none (table_refused_if (not (nat_lt t.volume c.volumes)) BadVolume) _ four.1 in
    let size = within_sizes 1 table_limit t.size (not_refused _ BadSize one.0) in
    let outer = either_fails (passes c t.events t.size || passes c t.slots t.size) (meet t.events t.slots t.size)
    (not_refused (is_bad_range c t) BadRange two.0) in
    let inner = either_fails (passes c t.events t.size) (passes c t.slots t.size) outer.0 in
    let others = none_mapped (λ n. NotOwner n) (first_of_others c t) three.0 in
    let exits = none_mapped (λ n. HasExit n) (first_with_exit c t) five.1 in record {
      some = size.0;
      few = size.1;
      events = not_past c t.events t.size inner.0;
      slots = not_past c t.slots t.size inner.1;
      apart = λ i k lt lu same. keep_apart t.events t.slots t.size i k outer.1 lt lu same;
      owned = λ i lt. let both = none_in_table (λ n. not (owner_of c n == t.owner)) t i others lt in (
        eqb-true (owner_of c (event_block t i)) t.owner (not_false _ both.0),
        eqb-true (owner_of c (slot_block t i)) t.owner (not_false _ both.1),
      );
      latch = below t.latch c.latches (not_refused _ BadLatch four.0);
      volume = below t.volume c.volumes (not_refused _ BadVolume five.0);
      alone = λ i lt. none_in_table (is_on_exit c) t i exits lt;
    }

-- ---- a post of a block that is on no exit is one event

none_start : (e : ℕ) (xs : List SetupExit) → list_any (λ x. is_on x e) xs ≡ false → exits_of e xs ≡ []
none_start e [] none = refl
none_start e (x ∷ xs) none =
    let both = either_fails (is_on x e) (list_any (λ y. is_on y e) xs) none in
    let source = (either_fails (x.source == e) (list_any (λ target. target == e) x.targets) both.0).0 in
    ap (λ b. cond b (x ∷ exits_of e xs) (exits_of e xs)) source ∙ none_start e xs both.1

alone_within : (depth : ℕ) (c : Setup) (e : ℕ) → is_on_exit c e ≡ false → reach_within depth c e ≤ 1
alone_within zero c e none = omega arith
alone_within (suc depth) c e none =
    let one : reach_within (suc depth) c e ≡ 1 =
    ap (λ (xs : List SetupExit). cut (1 + greatest (map (λ x. total (reach_within depth c) x.targets) xs))) (none_start e c.exits none) in
    omega (arith, one)

pub reaches_itself : (c : Setup) (e : ℕ) → is_on_exit c e ≡ false → reach c e ≤ 1
reaches_itself c e none = alone_within (length c.owners) c e none

-- ---- whether a configuration can have a table

-- one more test, which refuses if it fails
or_unkept : (k : Bool) (why : TableRefusal) (o : Option TableRefusal) (r : Bool) → is_some o ≡ not r
    → is_some (option_or (table_refused_if (not k) why) o) ≡ not (k && r)
or_unkept true why o r e = e
or_unkept false why o r e = refl

-- one more test, which refuses if it holds
or_refused : (b : Bool) (why : TableRefusal) (o : Option TableRefusal) (r : Bool) → is_some o ≡ not r
    → is_some (option_or (table_refused_if b why) o) ≡ not (not b && r)
or_refused true why o r e = refl
or_refused false why o r e = e

-- the last reason
last_found : (f : ℕ → TableRefusal) (x : Option ℕ) (b : Bool) → is_some x ≡ b → is_some (option_map f x) ≡ not (not b)
last_found f None false same = refl
last_found f None true same = absurd (cc same)
last_found f (Some n) false same = absurd (cc same)
last_found f (Some n) true same = refl

-- a table is refused exactly if the configuration cannot have it
pub can_have_is : (c : Setup) (t : Table) → is_some (table_refusal c t) ≡ not (can_have c t)
can_have_is c t =
    let others : Bool = list_any (λ e. not (owner_of c e == t.owner)) (blocks_of_table t) in
    let exits : Bool = list_any (is_on_exit c) (blocks_of_table t) in
    let o5 : Option TableRefusal = option_map (λ e. HasExit e) (first_with_exit c t) in
    let o4 : Option TableRefusal = option_or (table_refused_if (not (nat_lt t.volume c.volumes)) BadVolume) o5 in
    let o3 : Option TableRefusal = option_or (table_refused_if (not (nat_lt t.latch c.latches)) BadLatch) o4 in
    let o2 : Option TableRefusal = option_or (option_map (λ e. NotOwner e) (first_of_others c t)) o3 in
    let o1 : Option TableRefusal = option_or (table_refused_if (is_bad_range c t) BadRange) o2 in
    let r4 : Bool = nat_lt t.volume c.volumes && not exits in
    let r3 : Bool = nat_lt t.latch c.latches && r4 in
    let r2 : Bool = not others && r3 in
    or_unkept (is_within 1 table_limit t.size) BadSize o1 (not (is_bad_range c t) && r2)
    (or_refused (is_bad_range c t) BadRange o2 r2
    (or_found (λ e. NotOwner e) (first_of_others c t) others o3 r3
    (some_found (λ e. not (owner_of c e == t.owner)) (blocks_of_table t))
    (or_unkept (nat_lt t.latch c.latches) BadLatch o4 r4
    (or_unkept (nat_lt t.volume c.volumes) BadVolume o5 (not exits)
    (last_found (λ e. HasExit e) (first_with_exit c t) exits (some_found (is_on_exit c) (blocks_of_table t)))))))
