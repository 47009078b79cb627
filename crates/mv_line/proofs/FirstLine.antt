-- A line ends where LF first stands.
use Rattle.std.proofs.Common.{◌≡◌, ℕ, ◌+◌, ◌<◌, true, false, cond, eqb, not, List, [], ◌∷◌, length, take, drop, refl, arith}
use Rattle.std.specs.List.{position_or_len, onto_first}
use Rattle.std.proofs.lemmas.Grind.{common_steps}
use Rattle.mv_line.specs.Line.{lines_of}

-- where the first line of a text ends
abbrev pub line_end : List ℕ → ℕ
line_end bs = position_or_len (λ b. eqb b 10) bs

-- a text is its first line and the lines behind that
line_at : (b : ℕ) (bs : List ℕ)
    → lines_of (b ∷ bs) ≡ take (line_end (b ∷ bs)) (b ∷ bs) ∷ lines_of (drop (line_end (b ∷ bs) + 1) (b ∷ bs))
line_at b [] =
    elim (eqb b 10) as (λ t. cond t ([] ∷ []) ((b ∷ []) ∷ [])
    ≡ take (cond (not t) (1 + 0) 0) (b ∷ []) ∷ lines_of (drop (cond (not t) (1 + 0) 0 + 1) (b ∷ []))) [ true ↦ refl | false ↦ refl ]
line_at b (c ∷ bs) =
    let ih = line_at c bs in
    elim (eqb b 10) as (λ t. cond t ([] ∷ lines_of (c ∷ bs)) (onto_first b (lines_of (c ∷ bs)))
    ≡ take (cond (not t) (1 + line_end (c ∷ bs)) 0) (b ∷ c ∷ bs)
    ∷ lines_of (drop (cond (not t) (1 + line_end (c ∷ bs)) 0 + 1) (b ∷ c ∷ bs))) [
      | true ↦ refl
      | false ↦ rw ih (grind (arith, common_steps))
    ]

-- a text that is not empty has a line, which ends before LF or at the end of the text
pub line_of_text : (text : List ℕ) → 0 < length text
    → lines_of text ≡ take (line_end text) text ∷ lines_of (drop (line_end text + 1) text)
line_of_text [] lt = absurd (omega arith)
line_of_text (b ∷ bs) lt = line_at b bs
