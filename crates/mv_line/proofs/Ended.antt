-- Lines that end with LF. A text is such lines, each with its LF, and what is cut off behind them.
use Rattle.std.proofs.Common.{◌≡◌, ℕ, zero, suc, ◌+◌, ◌-◌, ◌<◌, ◌⊎◌, Bool, true, false, cond, eqb, not, List, [], ◌∷◌, ◌++◌, length}
use Rattle.std.proofs.Common.{take, get_or, reverse, refl, sym, ap, inl, inr, ◌∙◌, arith, take-append-drop}
use Rattle.std.specs.List.{flat_map, list_all, onto_first, prefix_len, suffix_len}
use Rattle.std.proofs.lemmas.Bool.{eqb-true, and_parts, not-true, not-false}
use Rattle.std.proofs.lemmas.List.{take_all, drop_all, length-reverse, reverse-append, get_or-reverse, take_more}
use Rattle.std.proofs.lemmas.List.Sums.{prefix_len_stops}
use Rattle.mv_line.specs.Line.{lines_of, ended_part, ended_lines, cut_off}
use Rattle.mv_line.proofs.FirstLine.{line_of_text}

abbrev is_other : ℕ → Bool
is_other b = not (eqb b 10)

-- a text without LF is the first line where LF follows it
pub line_first : (line rest : List ℕ) → list_all is_other line ≡ true → lines_of (line ++ 10 ∷ rest) ≡ line ∷ lines_of rest
line_first [] rest h = refl
line_first (b ∷ line) rest h =
    let both = and_parts (is_other b) (list_all is_other line) h in
    rw (not-true (eqb b 10) both.0, line_first line rest both.1) refl

-- the text of lines that each end with LF
abbrev pub ended_text : List (List ℕ) → List ℕ
ended_text lines = flat_map (λ line. line ++ 10 ∷ []) lines

-- a text that ends with LF is its lines
some_line : (text : List ℕ) → (line : List ℕ) × (lines : List (List ℕ)) × (lines_of (text ++ 10 ∷ []) ≡ line ∷ lines)
some_line [] = ([], [], refl)
some_line (b ∷ text) = (_, _, line_of_text (b ∷ text ++ 10 ∷ []) (omega arith))

lines_again : (text : List ℕ) → ended_text (lines_of (text ++ 10 ∷ [])) ≡ text ++ 10 ∷ []
lines_again [] = refl
lines_again (b ∷ text) =
    let lines = lines_of (text ++ 10 ∷ []) in
    let s = some_line text in
    let ih = lines_again text in
    elim (eqb b 10) as (λ t. eqb b 10 ≡ t → ended_text (cond t ([] ∷ lines) (onto_first b lines)) ≡ b ∷ text ++ 10 ∷ []) [
      | true ↦ λ e. ap (λ (x : List ℕ). 10 ∷ x) ih ∙ ap (λ (x : ℕ). x ∷ text ++ 10 ∷ []) (sym (eqb-true b 10 e))
      | false ↦ λ e. ap (λ (x : List (List ℕ)). ended_text (onto_first b x)) s.2
          ∙ ap (λ (x : List ℕ). b ∷ x) (ap ended_text (sym s.2) ∙ ih)
    ] refl

-- ---- the part of a text up to its last LF

-- it is nothing, or ends with LF
abbrev IsEnded : List ℕ → Type 0
IsEnded text = (text ≡ []) ⊎ ((front : List ℕ) × (text ≡ front ++ 10 ∷ []))

part_ended : (text : List ℕ) → IsEnded (ended_part text)
part_ended text = go (length text - suffix_len is_other text) refl where
  go : (n : ℕ) → length text - suffix_len is_other text ≡ n → IsEnded (ended_part text)
  go zero e = inl (ap (λ k. take k text) e)
  go (suc n) e =
      let more : length text - suffix_len is_other text ≡ n + 1 = omega (arith, e) in
      let within : suffix_len is_other text < length text = omega arith in
      let stops = prefix_len_stops is_other (reverse text) 0 (omega (arith, length-reverse text)) in
      let place : length text - 1 - suffix_len is_other text ≡ n = omega arith in
      let read = get_or-reverse text (suffix_len is_other text) 0 within ∙ ap (λ k. get_or text k 0) place in
      let lf : get_or text n 0 ≡ 10 = eqb-true (get_or text n 0) 10 (not-false _ (rw read at stops)) in
      inr (take n text, ap (λ k. take k text) more ∙ take_more text n 0 (omega arith) ∙ ap (λ (x : ℕ). take n text ++ x ∷ []) lf)

-- so it is its lines
pub ended_again : (text : List ℕ) → ended_text (ended_lines text) ≡ ended_part text
ended_again text = go (ended_part text) (part_ended text) where
  go : (part : List ℕ) → IsEnded part → ended_text (lines_of part) ≡ part
  go part (inl e) = ap (λ (x : List ℕ). ended_text (lines_of x)) e ∙ sym e
  go part (inr h) = ap (λ (x : List ℕ). ended_text (lines_of x)) h.1 ∙ lines_again h.0 ∙ sym h.1

-- and the text is that part and what is cut off
pub cut_again : (text : List ℕ) → ended_part text ++ cut_off text ≡ text
cut_again text = take-append-drop (length text - suffix_len is_other text) text

-- of a text that ends with LF nothing is cut off
module _ (front : List ℕ) where
  abbrev whole : List ℕ
  whole = front ++ 10 ∷ []

  none_behind : suffix_len is_other whole ≡ 0
  none_behind = ap (prefix_len is_other) (reverse-append front (10 ∷ []))

  pub ended_whole : ended_part whole ≡ whole
  ended_whole = take_all (length whole - suffix_len is_other whole) whole (omega (arith, none_behind))

  pub none_cut_off : cut_off whole ≡ []
  none_cut_off = drop_all (length whole - suffix_len is_other whole) whole (omega (arith, none_behind))
