-- Calls that are not refused: when a wait and an extend are not, and the program that each call is then. Whoever follows a
-- program call by call rewrites with these.
use Rattle.std.proofs.Common.{◌≡◌, ℕ, ◌+◌, ◌≤◌, nat_lt, false, Bool, List, [], ◌∷◌, ◌++◌, length, Option, None}
use Rattle.std.proofs.Common.{refl, sym, ap}
use Rattle.std.specs.List.{AllByRecursion}
use Rattle.std.proofs.lemmas.Bool.{eq-eqb, le-ltb}
use Rattle.std.specs.Option.{option_or}
use Rattle.mv_config.specs.Setup.{Setup, owner_of}
use Rattle.mv_calls.specs.Keeping.{Kept}
use Rattle.mv_calls.specs.Program.{unless_refused}
use Rattle.mv_calls.specs.Refusal.{Refusal, TooMany, NotOwnerAt, ExtendedAt}
use Rattle.mv_calls.specs.Waits.{refused_if, refused_at, doubled_at, is_others_block, wait_refusal, wait, arm_all}
use Rattle.mv_calls.specs.Waits.{settle_all, enough, AreDistinct}
use Rattle.mv_machine.proofs.Lists.{all_map, all_push}
use Rattle.mv_calls.proofs.Distinct.{none_found}

-- none of four reasons holds
no_reason : (a b c d : Option Refusal) → a ≡ None → b ≡ None → c ≡ None → d ≡ None → option_or a (option_or b (option_or c d)) ≡ None
no_reason a b c d p q r s = rw (p, q, r, s) refl

-- a test that holds nowhere refuses no position
pub nowhere : (why : ℕ → Refusal) (test : ℕ → Bool) (p : ℕ) (es : List ℕ) → AllByRecursion (λ e. test e ≡ false) es
    → refused_at why test p es ≡ None
nowhere why test p [] all = refl
nowhere why test p (e ∷ es) all = rw all.0 (nowhere why test (p + 1) es all.1)

-- a block that its caller may wait for, clear and extend: its own, and not extended
pub record IsFree (c : Setup) (kept : Kept) (e : ℕ) : Type 0 where
  pub own : owner_of c e ≡ kept.caller
  pub plain : kept.extended e ≡ false

-- the caller's own block
pub own_block : (c : Setup) (kept : Kept) (e : ℕ) → owner_of c e ≡ kept.caller → is_others_block c kept e ≡ false
own_block c kept e own = rw (eq-eqb (owner_of c e) kept.caller own) refl

-- ---- blocks that are different, and different from those before them, are not doubled

-- each of these differs from all of those before
abbrev Differ : List ℕ → List ℕ → Type 0
Differ before es = AllByRecursion (λ e. AllByRecursion (λ b. b ≡ e → ⊥) before) es

-- what differs from all before differs from one more
widen : (before : List ℕ) (e : ℕ) (es : List ℕ) → Differ before es → AllByRecursion (λ m. m ≡ e → ⊥) es → Differ (before ++ e ∷ []) es
widen before e [] d n = tt
widen before e (x ∷ es) d n = (all_push (λ b. b ≡ x → ⊥) before e d.0 (λ q. n.0 (sym q)), widen before e es d.1 n.1)

-- so none is doubled
none_doubled : (before : List ℕ) (p : ℕ) (es : List ℕ) → AreDistinct es → Differ before es → doubled_at before p es ≡ None
none_doubled before p [] a d = refl
none_doubled before p (e ∷ es) a d =
    rw (none_found before e d.0) (none_doubled (before ++ e ∷ []) (p + 1) es a.1 (widen before e es d.1 a.0))

-- there is nothing to differ from at first
differ_from_none : (es : List ℕ) → Differ [] es
differ_from_none [] = tt
differ_from_none (e ∷ es) = (tt, differ_from_none es)

-- a wait for no more than there are, over different free blocks
pub wait_unrefused : (c : Setup) (count : ℕ) (es : List ℕ) (kept : Kept) → count ≤ length es → AreDistinct es
    → AllByRecursion (IsFree c kept) es → wait_refusal c count es kept ≡ None
wait_unrefused c count es kept few distinct free =
    no_reason (refused_if (nat_lt (length es) count) TooMany) (doubled_at [] 0 es)
    (refused_at NotOwnerAt (is_others_block c kept) 0 es) (refused_at ExtendedAt kept.extended 0 es)
    (rw (le-ltb (length es) count few) refl) (none_doubled [] 0 es distinct (differ_from_none es))
    (nowhere NotOwnerAt (is_others_block c kept) 0 es (all_map (λ e f. own_block c kept e f.own) es free))
    (nowhere ExtendedAt kept.extended 0 es (all_map (λ e f. f.plain) es free))

-- such a wait arms and settles
pub wait_is : (c : Setup) (count : ℕ) (es : List ℕ) (kept : Kept) → wait_refusal c count es kept ≡ None
    → wait c count es kept ≡ arm_all es (settle_all es [] (enough count))
wait_is c count es kept none = ap (λ r. unless_refused r (arm_all es (settle_all es [] (enough count)))) none
