-- Kinds of bytes.
use Rattle.std.specs.Prelude.{ℕ, Bool, ◌==◌, ◌&&◌, not, nat_le, List}
use Rattle.std.specs.List.{list_any}

-- whether b is from low to high
abbrev pub is_within : ℕ → ℕ → ℕ → Bool
is_within low high b = nat_le low b && nat_le b high

-- whether a byte is the space
abbrev pub is_space : ℕ → Bool
is_space b = b == 32

-- whether a byte is a digit, `0` to `9`
abbrev pub is_digit : ℕ → Bool
is_digit b = is_within 48 57 b

-- whether a byte is printable ASCII, 32 to 126
abbrev pub is_printable : ℕ → Bool
is_printable b = is_within 32 126 b

-- whether a text has a byte that is not printable ASCII
abbrev pub has_foreign_byte : List ℕ → Bool
has_foreign_byte text = list_any (λ b. not (is_printable b)) text
