-- Numbers in decimal digits.
use Rattle.std.specs.Prelude.{ℕ, ◌+◌, ◌-◌, ◌*◌, Bool, false, ◌&&◌, List, [], ◌∷◌, Option, Some, None, if◌then◌else◌}
use Rattle.std.specs.List.{list_all}
use Rattle.mv_line.specs.Byte.{is_within, is_digit}

-- the number that these digits show after digits that show the number `shown`
abbrev pub value_behind : ℕ → List ℕ → ℕ
value_behind shown [] = shown
value_behind shown (d ∷ digits) = value_behind (10 * shown + (d - 48)) digits

-- whether a text is one or more digits
abbrev pub is_digits : List ℕ → Bool
is_digits [] = false
is_digits (d ∷ digits) = list_all is_digit (d ∷ digits)

-- whether a text is one or more digits, of which the first is not 0 if there are others
abbrev pub is_number : List ℕ → Bool
is_number [] = false
is_number (d ∷ []) = is_digit d
is_number (d ∷ e ∷ digits) = is_within 49 57 d && list_all is_digit (e ∷ digits)

-- the number that a text shows, if it shows one
abbrev pub number_of : List ℕ → Option ℕ
number_of text = if is_number text then Some (value_behind 0 text) else None

-- a number, if it is from low to high
abbrev pub within : ℕ → ℕ → Option ℕ → Option ℕ
within low high None = None
within low high (Some n) = if is_within low high n then Some n else None
