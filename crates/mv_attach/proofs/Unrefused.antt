-- A configuration of blocks is not refused. Used by config_of_blocks.
use Rattle.std.proofs.Common.{◌≡◌, ℕ, ◌<◌, ◌≤◌, true, List, [], ◌∷◌, length, sum, refl, arith}
use Rattle.std.proofs.lemmas.Bool.{eq-eqb, le-leb}
use Rattle.std.specs.List.{AllByRecursion}
use Rattle.mv_config.specs.Check.{IsValid, keeps}
use Rattle.mv_config.specs.Limits.{callers_limit, ecbs_limit, events_limit}
use Rattle.mv_config.specs.declared.config.ConfigLimit.TheVariants.{Callers, Budgets, Ecbs, Exits, Targets}
use Rattle.mv_config.proofs.Validity.{nothing_refuses}
use Rattle.mv_attach.specs.Blocks.{blocks_setup}

-- there are callers, and no more than there may be
callers_kept : (budgets owners : List ℕ) → 0 < length budgets → length budgets ≤ callers_limit
    → keeps Callers (blocks_setup budgets owners) ≡ true
callers_kept budgets owners some few = rw (le-leb 1 (length budgets) (omega arith), le-leb (length budgets) callers_limit few) refl

pub valid_blocks : (budgets owners : List ℕ) → 0 < length budgets → length budgets ≤ callers_limit → sum budgets ≤ events_limit
    → length owners ≤ ecbs_limit → AllByRecursion (λ owner. owner < length budgets) owners → IsValid (blocks_setup budgets owners)
valid_blocks budgets owners some few events blocks all =
    let c = blocks_setup budgets owners in
    let listed : AllByRecursion (λ l. keeps l c ≡ true) (Budgets ∷ Ecbs ∷ Exits ∷ Targets ∷ []) =
    (eq-eqb (length budgets) (length budgets) refl, (le-leb (length owners) ecbs_limit blocks, (refl, (refl, tt)))) in
    nothing_refuses c (callers_kept budgets owners some few, (refl, (refl, (refl, (refl, (refl, listed)))))) all refl events
