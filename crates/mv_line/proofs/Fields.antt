-- A field ends where a space first stands.
use Rattle.std.proofs.Common.{◌≡◌, ℕ, suc, Bool, true, false, List, [], ◌∷◌, take, drop, refl, sym, ap, ◌∙◌, arith}
use Rattle.std.specs.List.{position_or_len, prefix_len, onto_first}
use Rattle.std.proofs.lemmas.Grind.{common_steps}
use Rattle.mv_line.specs.Byte.{is_space}
use Rattle.mv_line.specs.Line.{without_first_spaces}
use Rattle.mv_line.specs.Field.{fields_of, behind_first_field, ends_field, starts_fields}

-- where a text without a space in front has the end of its first field
abbrev pub field_end : List ℕ → ℕ
field_end bs = position_or_len is_space bs

spaces_passed : (b : ℕ) (bs : List ℕ) → is_space b ≡ true → without_first_spaces (b ∷ bs) ≡ without_first_spaces bs
spaces_passed b bs e = grind (arith, common_steps)

no_spaces : (b : ℕ) (bs : List ℕ) → is_space b ≡ false → without_first_spaces (b ∷ bs) ≡ b ∷ bs
no_spaces b bs e = rw e refl

fields_passed : (b : ℕ) (bs : List ℕ) → is_space b ≡ true → fields_of (b ∷ bs) ≡ fields_of bs
fields_passed b bs e = rw e refl

behind_passed : (b : ℕ) (bs : List ℕ) → is_space b ≡ true → behind_first_field (b ∷ bs) ≡ behind_first_field bs
behind_passed b bs e = rw e refl

-- what passes each space in front passes them all
from_first : {A : Type 0} (f : List ℕ → A) → ((b : ℕ) (bs : List ℕ) → is_space b ≡ true → f (b ∷ bs) ≡ f bs)
    → (text : List ℕ) → f text ≡ f (without_first_spaces text)
from_first f passed [] = refl
from_first f passed (b ∷ bs) = go (is_space b) refl (from_first f passed bs) where
  go : (t : Bool) → is_space b ≡ t → f bs ≡ f (without_first_spaces bs) → f (b ∷ bs) ≡ f (without_first_spaces (b ∷ bs))
  go true e ih = passed b bs e ∙ ih ∙ ap f (sym (spaces_passed b bs e))
  go false e ih = ap f (sym (no_spaces b bs e))

no_more_spaces : (text : List ℕ) → prefix_len is_space (without_first_spaces text) ≡ 0
no_more_spaces [] = refl
no_more_spaces (b ∷ bs) = go (is_space b) refl (no_more_spaces bs) where
  go : (t : Bool) → is_space b ≡ t → prefix_len is_space (without_first_spaces bs) ≡ 0
      → prefix_len is_space (without_first_spaces (b ∷ bs)) ≡ 0
  go true e ih = ap (prefix_len is_space) (spaces_passed b bs e) ∙ ih
  go false e ih = ap (prefix_len is_space) (no_spaces b bs e) ∙ rw e refl

-- ---- a text whose first byte is no space begins with a field, which ends before a space or at the end of the text

field_end_more : (b : ℕ) (bs : List ℕ) → is_space b ≡ false → field_end (b ∷ bs) ≡ suc (field_end bs)
field_end_more b bs e = rw e (omega arith)

field_end_here : (b : ℕ) (bs : List ℕ) → is_space b ≡ true → field_end (b ∷ bs) ≡ 0
field_end_here b bs e = rw e refl

field_stops : (b : ℕ) (bs : List ℕ) → is_space b ≡ false → ends_field bs ≡ true → fields_of (b ∷ bs) ≡ (b ∷ []) ∷ fields_of bs
field_stops b bs e f = rw (e, f) refl

field_goes_on : (b : ℕ) (bs : List ℕ) → is_space b ≡ false → ends_field bs ≡ false → fields_of (b ∷ bs) ≡ onto_first b (fields_of bs)
field_goes_on b bs e f = rw (e, f) refl

field_begins : (b : ℕ) (bs : List ℕ) → is_space b ≡ false
    → fields_of (b ∷ bs) ≡ (b ∷ take (field_end bs) bs) ∷ fields_of (drop (field_end bs) bs)
field_begins b [] e = rw e refl
field_begins b (c ∷ bs) e = go (is_space c) refl (λ f. field_begins c bs f) where
  go : (t : Bool) → is_space c ≡ t → (is_space c ≡ false → fields_of (c ∷ bs) ≡ (c ∷ take (field_end bs) bs) ∷ fields_of
      (drop (field_end bs) bs))
      → fields_of (b ∷ c ∷ bs) ≡ (b ∷ take (field_end (c ∷ bs)) (c ∷ bs)) ∷ fields_of (drop (field_end (c ∷ bs)) (c ∷ bs))
  go true f ih = field_stops b (c ∷ bs) e f ∙ ap (λ (n : ℕ). (b ∷ take n (c ∷ bs)) ∷ fields_of (drop n (c ∷ bs)))
      (sym (field_end_here c bs f))
  go false f ih = field_goes_on b (c ∷ bs) e f ∙ ap (onto_first b) (ih f)
      ∙ ap (λ (n : ℕ). (b ∷ take n (c ∷ bs)) ∷ fields_of (drop n (c ∷ bs))) (sym (field_end_more c bs f))

field_at : (text : List ℕ) → prefix_len is_space text ≡ 0
    → fields_of text ≡ starts_fields (take (field_end text) text) (fields_of (drop (field_end text) text))
field_at [] e = refl
field_at (b ∷ bs) e = go (is_space b) refl where
  go : (t : Bool) → is_space b ≡ t → fields_of (b ∷ bs) ≡ starts_fields (take (field_end (b ∷ bs)) (b ∷ bs))
      (fields_of (drop (field_end (b ∷ bs)) (b ∷ bs)))
  go true f = absurd (grind (arith, common_steps))
  go false f = field_begins b bs f ∙ ap (λ (n : ℕ). starts_fields (take n (b ∷ bs)) (fields_of (drop n (b ∷ bs))))
      (sym (field_end_more b bs f))

pub first_field : (text : List ℕ) → let rest = without_first_spaces text in fields_of text ≡ starts_fields (take (field_end rest) rest)
    (fields_of (drop (field_end rest) rest))
first_field text = from_first fields_of fields_passed text ∙ field_at (without_first_spaces text) (no_more_spaces text)

-- ---- and what stands behind that field

behind_stops : (b : ℕ) (bs : List ℕ) → is_space b ≡ false → ends_field bs ≡ true → behind_first_field (b ∷ bs) ≡ bs
behind_stops b bs e f = rw (e, f) refl

behind_goes_on : (b : ℕ) (bs : List ℕ) → is_space b ≡ false → ends_field bs ≡ false → behind_first_field (b ∷ bs) ≡ behind_first_field bs
behind_goes_on b bs e f = rw (e, f) refl

behind_begins : (b : ℕ) (bs : List ℕ) → is_space b ≡ false → behind_first_field (b ∷ bs) ≡ drop (field_end bs) bs
behind_begins b [] e = rw e refl
behind_begins b (c ∷ bs) e = go (is_space c) refl (λ f. behind_begins c bs f) where
  go : (t : Bool) → is_space c ≡ t → (is_space c ≡ false → behind_first_field (c ∷ bs) ≡ drop (field_end bs) bs)
      → behind_first_field (b ∷ c ∷ bs) ≡ drop (field_end (c ∷ bs)) (c ∷ bs)
  go true f ih = behind_stops b (c ∷ bs) e f ∙ ap (λ (n : ℕ). drop n (c ∷ bs)) (sym (field_end_here c bs f))
  go false f ih = behind_goes_on b (c ∷ bs) e f ∙ ih f ∙ ap (λ (n : ℕ). drop n (c ∷ bs)) (sym (field_end_more c bs f))

behind_at : (text : List ℕ) → prefix_len is_space text ≡ 0 → behind_first_field text ≡ drop (field_end text) text
behind_at [] e = refl
behind_at (b ∷ bs) e = go (is_space b) refl where
  go : (t : Bool) → is_space b ≡ t → behind_first_field (b ∷ bs) ≡ drop (field_end (b ∷ bs)) (b ∷ bs)
  go true f = absurd (grind (arith, common_steps))
  go false f = behind_begins b bs f ∙ ap (λ (n : ℕ). drop n (b ∷ bs)) (sym (field_end_more b bs f))

pub behind_field : (text : List ℕ) → let rest = without_first_spaces text in behind_first_field text ≡ drop (field_end rest) rest
behind_field text = from_first behind_first_field behind_passed text ∙ behind_at (without_first_spaces text) (no_more_spaces text)
