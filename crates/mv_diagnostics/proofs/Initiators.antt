-- Numbers of initiators are gone through one by one.
use Rattle.std.proofs.Common.{◌≡◌, ℕ, suc, ◌+◌, ◌-◌, ◌<◌, ◌≤◌, List, [], ◌++◌, Option, append_assoc, ap, ◌∙◌, sym, arith}
use Rattle.mv_line.specs.declared.fault.TextFault.{TextFault}
use Rattle.mv_deck.specs.Deck.{deck_of}
use Rattle.mv_deck.specs.Fault.{first_fault}
use Rattle.mv_deck.specs.Weight.{weight}
use Rattle.mv_diagnostics.specs.Deck.{run_text, runs_text}

-- behind the last
pub runs_end : (bytes : List ℕ) (from : ℕ) → 8 < from → runs_text bytes from (9 - from) ≡ []
runs_end bytes from above =
    let none : 9 - from ≡ 0 = omega arith in
    ap (λ (count : ℕ). runs_text bytes from count) none

-- one, and the others
pub runs_step : (bytes : List ℕ) (from : ℕ) → from ≤ 8
    → runs_text bytes from (9 - from)
    ≡ run_text from (weight (deck_of bytes) from) (first_fault bytes from) ++ runs_text bytes (from + 1) (9 - (from + 1))
runs_step bytes from within =
    let more : 9 - from ≡ suc (9 - (from + 1)) = omega arith in
    ap (λ (count : ℕ). runs_text bytes from count) more

-- what was said of one number, and of the others, is said of all
pub runs_more : (bytes out mid new : List ℕ) (from heavy : ℕ) (fault : Option TextFault) → from ≤ 8
    → heavy ≡ weight (deck_of bytes) from → fault ≡ first_fault bytes from → mid ≡ out ++ run_text from heavy fault
    → new ≡ mid ++ runs_text bytes (from + 1) (9 - (from + 1)) → new ≡ out ++ runs_text bytes from (9 - from)
runs_more bytes out mid new from heavy fault within weighs first one others =
    let rest : List ℕ = runs_text bytes (from + 1) (9 - (from + 1)) in
    let all : run_text from heavy fault ++ rest ≡ runs_text bytes from (9 - from) =
    ap (λ (w : ℕ). run_text from w fault ++ rest) weighs
    ∙ ap (λ (f : Option TextFault). run_text from (weight (deck_of bytes) from) f ++ rest) first ∙ sym (runs_step bytes from within) in
    others ∙ ap (λ (x : List ℕ). x ++ rest) one ∙ append_assoc out (run_text from heavy fault) rest
    ∙ ap (λ (x : List ℕ). out ++ x) all
