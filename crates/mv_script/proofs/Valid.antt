-- No rule of configurations refuses that of a script which can be run.
use Rattle.std.proofs.Common.{◌≡◌, ℕ, ◌+◌, ◌<◌, ◌≤◌, true, false, ◌||◌, List, [], ◌∷◌, length, sum, None, refl}
use Rattle.std.proofs.Common.{arith, ◌*◌}
use Rattle.std.specs.Prelude.{nat_le, replicate}
use Rattle.std.specs.List.{AllByRecursion, position_from, list_all, list_any}
use Rattle.std.proofs.lemmas.List.{length-replicate}
use Rattle.std.proofs.lemmas.List.Folds.{sum_by-replicate}
use Rattle.std.proofs.lemmas.Bool.{le-leb, lt-leb, eq-eqb}
use Rattle.mv_config.specs.declared.config.ConfigLimit.TheVariants.{Budgets, Ecbs, Exits, Targets}
use Rattle.mv_config.specs.Check.{IsValid, is_bad_exit, is_within, keeps}
use Rattle.mv_config.specs.Limits.{events_limit}
use Rattle.mv_config.specs.Setup.{SetupExit}
use Rattle.mv_config.proofs.Validity.{nothing_refuses}
use Rattle.mv_scriptline.specs.Sizes.{SizesFace}
use Rattle.mv_script.specs.Reading.{Progress, setup_in, sizes_in, IsSoundSoFar}
use Rattle.mv_script.specs.Sound.{IsEcb, IsSoundExit}

-- a number within its limits
within : (low high n : ℕ) → low ≤ n → n ≤ high → is_within low high n ≡ true
within low high n a b = rw (le-leb low n a, le-leb n high b) refl

-- each exit has few targets
few_targets : (z : SizesFace) (exits : List SetupExit) → AllByRecursion (IsSoundExit z) exits
    → list_all (λ x. is_within 1 8 (length x.targets)) exits ≡ true
few_targets z [] a = refl
few_targets z (x ∷ exits) a =
    rw (within 1 8 (length x.targets) a.0.some (omega (arith, a.0.few))) (few_targets z exits a.1)

-- each target is a block above the source
good_targets : (z : SizesFace) (source : ℕ) (targets : List ℕ) → AllByRecursion (λ target. IsEcb z target × (source < target)) targets
    → list_any (λ target. nat_le z.ecbs target || nat_le target source) targets ≡ false
good_targets z source [] a = refl
good_targets z source (t ∷ targets) a = rw (lt-leb z.ecbs t a.0.0, lt-leb t source a.0.1) (good_targets z source targets a.1)

-- no exit is bad
good_exits : (z : SizesFace) (exits : List SetupExit) (i : ℕ) → AllByRecursion (IsSoundExit z) exits
    → position_from (is_bad_exit z.ecbs) i exits ≡ None
good_exits z [] i a = refl
good_exits z (x ∷ exits) i a =
    rw (lt-leb z.ecbs x.source a.0.source, good_targets z x.source x.targets a.0.up) (good_exits z exits (i + 1) a.1)

-- nothing refuses that of a script
pub valid : (p : Progress) (budgets : List ℕ) → IsSoundSoFar p → 1 ≤ p.stated → length budgets ≡ p.stated → sum budgets ≤ events_limit
    → IsValid (setup_in p budgets)
valid p budgets sound some each light =
    let c = setup_in p budgets in
    let listed : AllByRecursion (λ l. keeps l c ≡ true) (Budgets ∷ Ecbs ∷ Exits ∷ Targets ∷ []) = (
      eq-eqb (length budgets) p.stated each,
      (
        le-leb (length p.owners) 131072 (omega (arith, sound.few_ecbs)),
        (le-leb (length p.exits) 32768 (omega (arith, sound.few_exits)), (few_targets (sizes_in p) p.exits sound.exits, tt)),
      ),
    ) in
    nothing_refuses c (within 1 16 p.stated some (omega (arith, sound.few)), (refl, (refl, (refl, (refl, (refl, listed)))))) sound.owners
    (good_exits (sizes_in p) p.exits 1 sound.exits) light

-- nor one with budgets of nothing
pub valid_unbudgeted : (p : Progress) → IsSoundSoFar p → 1 ≤ p.stated → IsValid (setup_in p (replicate p.stated 0))
valid_unbudgeted p sound some =
    valid p (replicate p.stated 0) sound some (length-replicate p.stated 0)
    (let e : sum (replicate p.stated 0) ≡ p.stated * 0 = sum_by-replicate (λ (n : ℕ). n) p.stated 0 in none p.stated e) where
      none : (n : ℕ) → sum (replicate n 0) ≡ n * 0 → sum (replicate n 0) ≤ events_limit
      none n e = omega (arith, e)
