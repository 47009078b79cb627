-- One more exit.
use Rattle.std.proofs.Common.{◌≡◌, ℕ, ◌+◌, ◌++◌, List, [], ◌∷◌, map, take, sym, ap, ◌∙◌}
use Rattle.std.proofs.lemmas.List.{map-append, take_more, take-map}
use Rattle.mv_config.specs.Config.{exit_of}
use Rattle.mv_config.specs.Setup.{SetupExit}
use Rattle.mv_config.specs.declared.config.Exit.{Exit}
use Rattle.mv_script.proofs.configuration.copied.Goals as goal

pub loop-exit-preserved : goal.loop-exit-preserved
loop-exit-preserved c =
    let xs = c.args.exits.now in
    let i = c.loop-exit.exit-index in
    let item = c.exit-item.result in
    let targets = c.in_ok-from_slice.ensures.items ∙ c.deref.ensures.value in
    let more : take (i + 1) xs ≡ take i xs ++ item ∷ [] =
    take_more xs i item c.loop-exit-test.true ∙ ap (λ (x : Exit). take i xs ++ x ∷ []) (sym c.exit-item.is) in
    let copy : SetupExit = record { source = item.source; targets = c.in_ok-from_slice.field-0.items } in
    ap (map exit_of) c.in_ok-push.ensures.items ∙ map-append exit_of c.loop-exit.copies.items _
    ∙ ap (λ (l : List SetupExit). l ++ copy ∷ []) c.loop-exit.invariant
    ∙ ap (λ (ts : List ℕ). take i (map exit_of xs) ++ record { source = item.source; targets = ts } ∷ []) targets
    ∙ ap (λ (l : List SetupExit). l ++ exit_of item ∷ []) (take-map exit_of i xs)
    ∙ sym (map-append exit_of (take i xs) (item ∷ [])) ∙ ap (map exit_of) (sym more) ∙ sym (take-map exit_of (i + 1) xs)
