-- The parts of a text, and which texts lack a byte.
use Rattle.std.proofs.Common.{◌≡◌, ℕ, zero, suc, ◌+◌, ◌/◌, ◌%◌, ◌<◌, Bool, true, false}
use Rattle.std.proofs.Common.{cond, eqb, not, List, [], ◌∷◌, ◌++◌, decimal, refl, ◌∙◌, arith}
use Rattle.std.specs.Fmt.{digits, digits_onto, digit_glyph}
use Rattle.std.specs.List.{list_all, join_with_byte}
use Rattle.std.proofs.lemmas.Bool.{eq-eqb, ne_eqb, and_parts, lt-ltb, not-true}
use Rattle.std.proofs.lemmas.List.Folds.{list_all-append}
use Rattle.std.proofs.lemmas.List.Splits.{join_with_byte-slice_split}
use Rattle.mv_line.specs.Part.{parts_at}

-- a text that lacks a byte
abbrev pub lacks : ℕ → List ℕ → Bool
lacks byte text = list_all (λ b. not (eqb b byte)) text

abbrev pub Lacks : ℕ → List ℕ → Type 0
Lacks byte text = lacks byte text ≡ true

pub Lacks-append : (byte : ℕ) (a b : List ℕ) → Lacks byte a → Lacks byte b → Lacks byte (a ++ b)
Lacks-append byte a b p q = list_all-append (λ x. not (eqb x byte)) a b ∙ rw (p, q) refl

other_first : (byte b : ℕ) (text : List ℕ) → Lacks byte (b ∷ text) → (eqb b byte ≡ false) × Lacks byte text
other_first byte b text h = let both = and_parts (not (eqb b byte)) (lacks byte text) h in (not-true (eqb b byte) both.0, both.1)

-- the first part ends before the byte
pub parts_first : (byte : ℕ) (part rest : List ℕ) → Lacks byte part → parts_at byte (part ++ byte ∷ rest) ≡ part ∷ parts_at byte rest
unfolding parts_at
parts_first byte [] rest h = rw (eq-eqb byte byte refl) refl
parts_first byte (b ∷ part) rest h =
    let o = other_first byte b part h in
    rw (o.0, parts_first byte part rest o.1) refl

-- a text without the byte is one part
pub parts_last : (byte : ℕ) (part : List ℕ) → Lacks byte part → parts_at byte part ≡ part ∷ []
unfolding parts_at
parts_last byte [] h = refl
parts_last byte (b ∷ part) h = let o = other_first byte b part h in rw (o.0, parts_last byte part o.1) refl

-- ---- numbers lack each byte below their digits

glyph_is : (d : ℕ) → d < 10 → digit_glyph false d ≡ 48 + d
glyph_is d lt = rw (lt-ltb d 10 lt) refl

glyph_other : (byte d : ℕ) → byte < 48 → d < 10 → not (eqb (digit_glyph false d) byte) ≡ true
glyph_other byte d low lt = rw (glyph_is d lt, ne_eqb (48 + d) byte (λ e. omega arith)) refl

Lacks-onto : (byte k n : ℕ) (acc : List ℕ) → byte < 48 → Lacks byte acc → Lacks byte (digits_onto k 10 false n acc)
Lacks-onto byte zero n acc low h = h
Lacks-onto byte (suc k) n acc low h =
    let more : Lacks byte (digit_glyph false (n % 10) ∷ acc) = rw (glyph_other byte (n % 10) low (omega arith), h) refl in
    let rest = Lacks-onto byte k (n / 10) (digit_glyph false (n % 10) ∷ acc) low more in
    elim (eqb (n / 10) 0) as (λ t. Lacks byte
    (cond t (digit_glyph false (n % 10) ∷ acc) (digits_onto k 10 false (n / 10) (digit_glyph false (n % 10) ∷ acc)))) [
      | true ↦ more
      | false ↦ rest
    ]

pub Lacks-decimal : (byte n : ℕ) → byte < 48 → Lacks byte (decimal n)
unfolding digits
Lacks-decimal byte n low = Lacks-onto byte 64 n [] low refl

-- the parts of a text, put together again
pub joined_again : (byte : ℕ) (text : List ℕ) → join_with_byte byte (parts_at byte text) ≡ text
unfolding parts_at
joined_again byte text = join_with_byte-slice_split byte text
