-- How many fields a text has.
use Rattle.std.proofs.Common.{◌≡◌, ℕ, ◌+◌, ◌≤◌, ◌<◌, Bool, true, false, List, [], ◌∷◌, length, arith, if◌then◌else◌}
use Rattle.std.specs.List.{onto_first}
use Rattle.mv_line.specs.Byte.{is_space}
use Rattle.mv_line.specs.Field.{fields_of, ends_field, starts_fields}

-- a byte more in front makes at most one more field
onto_few : (b : ℕ) (fields : List (List ℕ)) → length (onto_first b fields) ≤ length fields + 1
onto_few b [] = omega arith
onto_few b (f ∷ fields) = omega arith

-- no more fields than bytes
few_fields : (text : List ℕ) → length (fields_of text) ≤ length text
few_fields [] = omega arith
few_fields (b ∷ bs) = go (is_space b) (ends_field bs) (few_fields bs) where
  go : (s e : Bool) → length (fields_of bs) ≤ length bs
      → length (if s then fields_of bs else if e then (b ∷ []) ∷ fields_of bs else onto_first b (fields_of bs)) ≤ length (b ∷ bs)
  go true e le = omega (arith, le)
  go false true le = omega (arith, le)
  go false false le = omega (arith, le, onto_few b (fields_of bs))

-- where a field stands behind so many, there are not as many as bytes
pub room_for_one : (text word : List ℕ) (fields : List (List ℕ)) (count : ℕ)
    → length (fields_of text) ≡ count + length (starts_fields word fields) → 0 < length word → count + 1 ≤ length text
room_for_one text [] fields count e lt = absurd (omega arith)
room_for_one text (b ∷ bs) fields count e lt = omega (arith, few_fields text, e)
