-- The first part of a text, by the place of the byte.
use Rattle.std.proofs.Common.{◌≡◌, ℕ, ◌+◌, ◌-◌, ◌<◌, eqb, List, [], ◌∷◌, length, take, drop, Some, None, sym, ap, ◌∙◌, arith}
use Rattle.std.specs.List.{position, position_or_len}
use Rattle.std.proofs.lemmas.Grind.{common_steps}
use Rattle.std.proofs.lemmas.List.{take_all, length-drop}
use Rattle.std.proofs.lemmas.List.Splits.{slice_split_none, slice_split_first}
use Rattle.std.proofs.lemmas.List.Sums.{fails_before_first}
use Rattle.mv_line.specs.Part.{parts_at}
use Rattle.mv_line.proofs.Places.{no_place}

-- the first part ends before the place that was found
pub parts_found : (byte : ℕ) (text : List ℕ) (k : ℕ) → position (λ b. eqb b byte) text ≡ Some k
    → parts_at byte text ≡ take k text ∷ parts_at byte (take (length text - (k + 1)) (drop (k + 1) text))
unfolding parts_at
parts_found byte text k e =
    let lt : position_or_len (λ b. eqb b byte) text < length text = grind (arith, common_steps) in
    let same : position_or_len (λ b. eqb b byte) text ≡ k = grind (arith, common_steps) in
    let all : take (length text - (k + 1)) (drop (k + 1) text) ≡ drop (k + 1) text =
    take_all (length text - (k + 1)) (drop (k + 1) text) (omega (arith, length-drop (k + 1) text)) in
    slice_split_first (λ b. eqb b byte) text 0 lt ∙ ap (λ (n : ℕ). take n text ∷ parts_at byte (drop (n + 1) text)) same
    ∙ ap (λ (x : List ℕ). take k text ∷ parts_at byte x) (sym all)

-- a text in which the byte is not found is one part
pub parts_missed : (byte : ℕ) (text : List ℕ) → position (λ b. eqb b byte) text ≡ None → parts_at byte text ≡ text ∷ []
unfolding parts_at
parts_missed byte text e =
    let all : length text ≡ position_or_len (λ b. eqb b byte) text = no_place (λ b. eqb b byte) text e in
    slice_split_none (λ b. eqb b byte) text (λ k d lt. fails_before_first (λ b. eqb b byte) text k d (omega (arith, all)))
