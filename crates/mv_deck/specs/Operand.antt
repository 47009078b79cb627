-- The valid names, numbers and codes of statements.
use Rattle.std.specs.Prelude.{ℕ, ◌+◌, ◌-◌, ◌*◌, Bool, false, ◌==◌, ◌&&◌, ◌||◌, nat_le, nat_lt, List, [], ◌∷◌, length, Option, Some, None}
use Rattle.std.specs.Prelude.{option_map, codes, if◌then◌else◌}
use Rattle.std.specs.List.{list_all}
use Rattle.std.specs.Str.{bytes_eq}
use Rattle.mv_latch.specs.declared.request.Mode.{Mode}
use Rattle.mv_latch.specs.declared.request.Mode.TheVariants.{Shared, Exclusive}
use Rattle.mv_line.specs.Byte.{is_within, is_digit}
use Rattle.mv_line.specs.Number.{number_of, within}
use Rattle.mv_deck.specs.EndCode.{highest_code, abended}

-- ---- limits

-- the number of volumes, each guarded by the latch of its number
abbrev pub volume_count : ℕ
volume_count = 8

-- the highest number of a latch, and of the volume that it guards
abbrev pub highest_latch : ℕ
highest_latch = 7

-- the highest amount of a COUNT
abbrev pub highest_amount : ℕ
highest_amount = 9999

-- the most jobs that one job may wait for
abbrev pub most_after : ℕ
most_after = 8

-- the most bytes of a name
abbrev pub longest_name : ℕ
longest_name = 8

-- ---- names

-- whether a name may begin with this byte: `A` to `Z`, `@`, `#`, `$`
abbrev pub is_name_start : ℕ → Bool
is_name_start b = is_within 64 90 b || is_within 35 36 b

-- whether a name may have this byte: a byte that may begin it, or a digit
abbrev pub is_name_byte : ℕ → Bool
is_name_byte b = is_name_start b || is_digit b

-- whether a field is a name: one to eight bytes of names, the first not a digit
abbrev pub is_name : List ℕ → Bool
is_name [] = false
is_name (b ∷ bs) = is_name_start b && list_all is_name_byte bs && nat_lt (length bs) longest_name

-- ---- numbers

-- the number of a latch or a volume
abbrev pub latch_of : List ℕ → Option ℕ
latch_of text = within 0 highest_latch (number_of text)

-- the amount of a COUNT
abbrev pub amount_of : List ℕ → Option ℕ
amount_of text = within 1 highest_amount (number_of text)

-- a return code, or an accepted end code
abbrev pub code_of : List ℕ → Option ℕ
code_of text = within 0 highest_code (number_of text)

-- the mode of `S` (shared) or `X` (exclusive)
abbrev pub mode_of : List ℕ → Option Mode
mode_of text = if bytes_eq text (codes "S") then Some Shared else if bytes_eq text (codes "X") then Some Exclusive else None

-- ---- codes of an ABEND

-- whether a byte is a hexadecimal digit: 0 to 9 and A to F
abbrev pub is_hex : ℕ → Bool
is_hex b = is_digit b || is_within 65 70 b

-- the value of a hexadecimal digit
abbrev pub hex_value : ℕ → ℕ
hex_value b = if is_digit b then b - 48 else b - 55

-- a user code: four digits, at most the highest code
abbrev pub user_code_of : List ℕ → Option ℕ
user_code_of (a ∷ b ∷ c ∷ d ∷ []) =
    let n = 1000 * (a - 48) + 100 * (b - 48) + 10 * (c - 48) + (d - 48) in
    if list_all is_digit (a ∷ b ∷ c ∷ d ∷ []) && nat_le n highest_code then Some n else None
user_code_of _ = None

-- a system code: three hexadecimal digits, not all 0
abbrev pub system_code_of : List ℕ → Option ℕ
system_code_of (a ∷ b ∷ c ∷ []) =
    let n = 256 * hex_value a + 16 * hex_value b + hex_value c in
    if list_all is_hex (a ∷ b ∷ c ∷ []) && nat_lt 0 n then Some n else None
system_code_of _ = None

-- the end code of an ABEND: `Udddd` or `Shhh`
abbrev pub end_code_of : List ℕ → Option ℕ
end_code_of [] = None
end_code_of (letter ∷ digits) =
    if letter == 85 then option_map (λ user. abended 0 user) (user_code_of digits)
    else if letter == 83 then option_map (λ system. abended system 0) (system_code_of digits)
    else None
