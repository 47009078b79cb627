-- The latches of a job are gone through one by one, and so are its steps.
use Rattle.std.proofs.Common.{◌≡◌, ℕ, suc, ◌+◌, ◌-◌, ◌<◌, ◌≤◌, List, [], ◌++◌, length, take, get_or, fold, Option, None, append_assoc, ap, sym, ◌∙◌, arith}
use Rattle.std.proofs.lemmas.List.Sums.{fold_more}
use Rattle.mv_latch.specs.declared.request.Mode.{Mode}
use Rattle.mv_deck.specs.declared.deck.Step.{Step}
use Rattle.mv_deck.specs.Held.{held, held_behind}
use Rattle.mv_diagnostics.specs.Held.{latch_text, latches_text}

-- one more step
pub held_more : (latch : ℕ) (steps : List Step) (i : ℕ) (d : Step) → i < length steps
    → fold (held_behind latch) None (take (i + 1) steps)
    ≡ held_behind latch (fold (held_behind latch) None (take i steps)) (get_or steps i d)
held_more latch steps i d lt = fold_more (held_behind latch) None steps i d lt

-- after the last latch
pub latches_end : (name : List ℕ) (steps : List Step) (from : ℕ) → 8 ≤ from → latches_text name steps from (8 - from) ≡ []
latches_end name steps from above =
    let none : 8 - from ≡ 0 = omega arith in
    ap (λ (count : ℕ). latches_text name steps from count) none

-- one latch, and the others
pub latches_step : (name : List ℕ) (steps : List Step) (from : ℕ) → from < 8
    → latches_text name steps from (8 - from)
    ≡ latch_text name from (held steps from) ++ latches_text name steps (from + 1) (8 - (from + 1))
latches_step name steps from within =
    let more : 8 - from ≡ suc (8 - (from + 1)) = omega arith in
    ap (λ (count : ℕ). latches_text name steps from count) more

-- what was said of one latch, and of the others, is said of all
pub latches_more : (name : List ℕ) (steps : List Step) (out mid new : List ℕ) (from : ℕ) (mode : Option Mode) → from < 8
    → mode ≡ held steps from → mid ≡ out ++ latch_text name from mode
    → new ≡ mid ++ latches_text name steps (from + 1) (8 - (from + 1)) → new ≡ out ++ latches_text name steps from (8 - from)
latches_more name steps out mid new from mode within is one others =
    let rest : List ℕ = latches_text name steps (from + 1) (8 - (from + 1)) in
    let all : latch_text name from mode ++ rest ≡ latches_text name steps from (8 - from) =
    ap (λ (m : Option Mode). latch_text name from m ++ rest) is ∙ sym (latches_step name steps from within) in
    others ∙ ap (λ (x : List ℕ). x ++ rest) one ∙ append_assoc out (latch_text name from mode) rest
    ∙ ap (λ (x : List ℕ). out ++ x) all
