-- Lines that are read as they stand: each byte is printable, and the last is no space.
use Rattle.std.proofs.Common.{◌≡◌, ℕ, suc, ◌-◌, ◌<◌, ◌≤◌, Bool, true, false, not, ◌&&◌, ◌==◌, List, [], ◌∷◌, ◌++◌, length, get_or}
use Rattle.std.proofs.Common.{take, refl, ap, ◌∙◌, arith, append_assoc, leb}
use Rattle.std.specs.Prelude.{flat_map}
use Rattle.std.specs.List.{AllByRecursion, onto_first, suffix_len}
use Rattle.std.proofs.lemmas.Bool.{and_parts, leb-true, ne_eqb, not-true}
use Rattle.std.proofs.lemmas.List.Sums.{suffix_len_is}
use Rattle.std.proofs.Math.Seq.{take-length}
use Rattle.mv_line.specs.Byte.{is_printable, is_space, has_foreign_byte}
use Rattle.mv_line.specs.Line.{lines_of, without_cr, without_last_spaces}
use Rattle.mv_deck.specs.Load.{ended}

-- each byte is printable, and the last is no space
abbrev pub is_tidy : List ℕ → Bool
is_tidy [] = false
is_tidy (b ∷ []) = is_printable b && not (is_space b)
is_tidy (b ∷ c ∷ bs) = is_printable b && is_tidy (c ∷ bs)

-- ---- its bytes

-- no byte is foreign
pub printable : (line : List ℕ) → is_tidy line ≡ true → has_foreign_byte line ≡ false
printable [] e = absurd cc
printable (b ∷ []) e = let both = and_parts (is_printable b) (not (is_space b)) e in rw both.0 refl
printable (b ∷ c ∷ bs) e = let both = and_parts (is_printable b) (is_tidy (c ∷ bs)) e in rw (both.0, printable (c ∷ bs) both.1) refl

-- a printable byte is no control character
no_control : (b k : ℕ) → is_printable b ≡ true → k < 32 → (b == k) ≡ false
no_control b k e lt =
    let both = and_parts (leb 32 b) (leb b 126) e in
    let le : 32 ≤ b = leb-true 32 b both.0 in
    ne_eqb b k (λ same. omega arith)

-- the last byte
abbrev last_of : List ℕ → ℕ
last_of line = get_or line (length line - 1) 0

last_more : (b c : ℕ) (bs : List ℕ) → last_of (b ∷ c ∷ bs) ≡ last_of (c ∷ bs)
last_more b c bs = let e : length (b ∷ c ∷ bs) - 1 ≡ suc (length (c ∷ bs) - 1) = omega arith in rw e refl

last_is : (line : List ℕ) → is_tidy line ≡ true → (is_printable (last_of line) ≡ true) × (not (is_space (last_of line)) ≡ true)
last_is [] e = absurd cc
last_is (b ∷ []) e = and_parts (is_printable b) (not (is_space b)) e
last_is (b ∷ c ∷ bs) e = rw (last_more b c bs) (last_is (c ∷ bs) (and_parts (is_printable b) (is_tidy (c ∷ bs)) e).1)

-- a tidy line is not empty
pub filled : (line : List ℕ) → is_tidy line ≡ true → 0 < length line
filled [] e = absurd cc
filled (b ∷ bs) e = omega arith

-- ---- it is read as it stands

pub keeps_cr : (line : List ℕ) → is_tidy line ≡ true → without_cr line ≡ line
keeps_cr line e = rw (no_control (last_of line) 13 (last_is line e).0 (omega arith)) refl

pub keeps_spaces : (line : List ℕ) → is_tidy line ≡ true → without_last_spaces line ≡ line
keeps_spaces line e =
    let none : suffix_len is_space line ≡ length line - length line =
    suffix_len_is is_space line (length line) 0 (omega arith) (λ k le lt. absurd (omega arith))
    (λ some. not-true (is_space (last_of line)) (last_is line e).1) in
    let all : length line - suffix_len is_space line ≡ length line = omega arith in
    ap (λ (n : ℕ). take n line) all ∙ take-length line

-- ---- tidy lines, each with its LF, are cut again

-- one of them
pub line_again : (line rest : List ℕ) → is_tidy line ≡ true → lines_of (line ++ 10 ∷ rest) ≡ line ∷ lines_of rest
line_again [] rest e = absurd cc
line_again (b ∷ []) rest e = rw (no_control b 10 (and_parts (is_printable b) (not (is_space b)) e).0 (omega arith)) refl
line_again (b ∷ c ∷ bs) rest e =
    let both = and_parts (is_printable b) (is_tidy (c ∷ bs)) e in
    rw (no_control b 10 both.0 (omega arith)) (ap (onto_first b) (line_again (c ∷ bs) rest both.1))

-- all of them
pub lines_again : (lines : List (List ℕ)) → AllByRecursion (λ line. is_tidy line ≡ true) lines → lines_of (flat_map ended lines) ≡ lines
lines_again [] are = refl
lines_again (line ∷ lines) are =
    ap lines_of (append_assoc line (10 ∷ []) (flat_map ended lines)) ∙ line_again line (flat_map ended lines) are.0
    ∙ ap (λ (x : List (List ℕ)). line ∷ x) (lines_again lines are.1)
