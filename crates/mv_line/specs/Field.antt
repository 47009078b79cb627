-- The fields of a text, which are separated by one or more spaces.
use Rattle.std.specs.Prelude.{ℕ, Bool, true, ◌||◌, not, List, [], ◌∷◌, Option, Some, None, if◌then◌else◌}
use Rattle.std.specs.List.{onto_first}
use Rattle.mv_line.specs.Byte.{is_space}

-- whether a field ends before this text: at a space or at the end
abbrev pub ends_field : List ℕ → Bool
ends_field [] = true
ends_field (b ∷ bs) = is_space b

-- the fields of a text, in order
abbrev pub fields_of : List ℕ → List (List ℕ)
fields_of [] = []
fields_of (b ∷ bs) =
    if is_space b then fields_of bs
    else if ends_field bs then (b ∷ []) ∷ fields_of bs
    else onto_first b (fields_of bs)

-- what follows the first field of a text, from the space that ends it on; empty if there is no field
abbrev pub behind_first_field : List ℕ → List ℕ
behind_first_field [] = []
behind_first_field (b ∷ bs) = if is_space b || not (ends_field bs) then behind_first_field bs else bs

-- a first field and the fields that follow it; an empty first field is not a field, and then there are none
abbrev pub starts_fields : List ℕ → List (List ℕ) → List (List ℕ)
starts_fields [] rest = []
starts_fields (b ∷ bs) rest = (b ∷ bs) ∷ rest

-- the field of a list that has exactly one
abbrev pub one_of : List (List ℕ) → Option (List ℕ)
one_of (field ∷ []) = Some field
one_of _ = None

-- the fields of a list that has exactly two
abbrev pub two_of : List (List ℕ) → Option (List ℕ × List ℕ)
two_of (first ∷ second ∷ []) = Some (first, second)
two_of _ = None
