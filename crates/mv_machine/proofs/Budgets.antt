-- Places and generations of legal lists stay within their limits.
use Rattle.std.proofs.Common.{◌≡◌, ℕ, ◌≤◌, List, length, subst, arith}
use Rattle.mv_config.specs.Limits.{events_limit, highest_generation}
use Rattle.mv_machine.specs.declared.entry.Entry.{Entry}
use Rattle.mv_machine.specs.declared.entry.Object.{Object}
use Rattle.mv_machine.specs.declared.entry.Object.TheVariants.{Element}
use Rattle.mv_machine.specs.Elements.{FitsItsPlace}
use Rattle.mv_machine.specs.Legal.{Legal, after, «at», CountsFrom}
use Rattle.mv_config.specs.Setup.{Setup}
use Rattle.mv_machine.specs.System.{opening, place_of}
use Rattle.mv_machine.proofs.ElementRuns.{generation_fits}
use Rattle.mv_machine.proofs.Histories.{place-after, place_bounded, zero_place}
use Rattle.mv_machine.proofs.Objects.{at_counts}

pub places_fit : (c : Setup) (es : List Entry) (o : Object) → Legal c es → length es ≤ events_limit → place_of (after c es) o ≤ events_limit
places_fit c es o l le = omega (arith, place_bounded c (opening c) es o l, zero_place c o)

pub place_is_count : (c : Setup) (es : List Entry) (o : Object) → Legal c es → place_of (after c es) o ≡ length («at» o es)
place_is_count c es o l = omega (arith, place-after c (opening c) es o l, zero_place c o)

pub places_count : (c : Setup) (es : List Entry) (o : Object) → Legal c es → CountsFrom 0 («at» o es)
places_count c es o l = subst (λ p. CountsFrom p («at» o es)) (zero_place c o) (at_counts c (opening c) o es l)

pub no_high_generation : (c : Setup) (es : List Entry) (n : ℕ) → Legal c es → length es ≤ events_limit
    → ((after c es).element n).state.generation ≤ highest_generation
no_high_generation c es n l le =
    let fits : FitsItsPlace ((after c es).element n) = generation_fits c es n l in
    let place : ((after c es).element n).place ≤ events_limit = places_fit c es (Element n) l le in
    omega arith
