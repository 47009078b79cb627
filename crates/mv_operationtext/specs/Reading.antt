-- How a text is read from left to right: the value that is read, and the rest of the text.
use Rattle.std.specs.Prelude.{ℕ, ◌==◌, nat_eq, Bool, List, take, drop, length, Option, Some, None, option_map, codes}
use Rattle.std.specs.Prelude.{option_and_then, if◌then◌else◌}
use Rattle.std.specs.Borrow.{Bor}
use Rattle.std.specs.List.{starts_with, prefix_len}
use Rattle.std.specs.Option.{option_or}
use Rattle.mv_line.specs.Byte.{is_digit}
use Rattle.mv_line.specs.Number.{number_of, within}
use Rattle.mv_operationtext.specs.Ranges.{highest_u32, highest_u64}

-- A reader of values: if it can read a value from the front of a text, it gives the value and the rest of the text.
abbrev pub Reader : Type 0 → Type 0
Reader A = List ℕ → Option (A × List ℕ)

-- what a function read, with the bytes of the rest
abbrev pub seen : {A : Type 0} → Option (A × Bor (List ℕ)) → Option (A × List ℕ)
seen read = option_map (λ x. (x.0, x.1.now)) read

-- the reader that reads nothing
abbrev pub nothing : {A : Type 0} → Reader A
nothing text = None

-- the rest of a text after a word, if the text begins with the word
unfoldable pub after : List ℕ → List ℕ → Option (List ℕ)
after word text = if starts_with nat_eq text word then Some (drop (length word) text) else None

-- reads this value, if the text begins with its word
abbrev pub word : {A : Type 0} → List ℕ → A → Reader A
word its a text = option_map (λ rest. (a, rest)) (after its text)

-- reads a word, and then by this reader
unfoldable pub behind : {A : Type 0} → List ℕ → Reader A → Reader A
behind word reader text = option_and_then reader (after word text)

-- reads by the first of two readers, or if it can't by the other
infixr 40 ◌or◌
abbrev pub ◌or◌ : {A : Type 0} → Reader A → Reader A → Reader A
(one or other) text = option_or (one text) (other text)

-- reads a value that is made of what a reader reads
abbrev pub made : {A B : Type 0} → (A → B) → Reader A → Reader B
made f reader text = option_map (λ x. (f x.0, x.1)) (reader text)

-- reads two values with this word between; how the second is read may depend on the first
unfoldable pub parted_at : {A B : Type 0} → List ℕ → Reader A → (A → Reader B) → Reader (A × B)
parted_at word first second text =
    option_and_then (λ x. option_map (λ y. ((x.0, y.0), y.1)) (behind word (second x.0) x.1)) (first text)

-- reads two values with one space between; how the second is read may depend on the first
abbrev pub parted_by : {A B : Type 0} → Reader A → (A → Reader B) → Reader (A × B)
parted_by first second = parted_at (codes " ") first second

-- reads two values with one space between, each by itself
abbrev pub parted : {A B : Type 0} → Reader A → Reader B → Reader (A × B)
parted first second = parted_by first (λ x. second)

-- the value of a text that is read to its end
abbrev pub whole : {A : Type 0} → Reader A → List ℕ → Option A
whole reader text = option_and_then (λ x. if length x.1 == 0 then Some x.0 else None) (reader text)

-- ---- numbers

-- how many digits a text begins with
abbrev pub digit_count : List ℕ → ℕ
digit_count text = prefix_len is_digit text

-- the value of digits, and the rest of the text; if they have no value, a strict reader reads nothing, and any other reads 0
abbrev pub shown_or_zero : Bool → List ℕ → Option ℕ → Option (ℕ × List ℕ)
shown_or_zero strict rest (Some n) = Some (n, rest)
shown_or_zero strict rest None = if strict then None else Some (0, rest)

-- Reads a number from low to high. A strict reader wants digits of such a number, without a leading zero. Any other reader
-- takes one or more digits, and reads 0 if they are not such a number.
unfoldable pub number : Bool → ℕ → ℕ → Reader ℕ
number strict low high text =
    if digit_count text == 0 then None
    else shown_or_zero strict (drop (digit_count text) text) (within low high (number_of (take (digit_count text) text)))

-- reads a number of four bytes
abbrev pub any_u32 : Bool → Reader ℕ
any_u32 strict = number strict 0 highest_u32

-- reads a number of eight bytes
abbrev pub any_u64 : Bool → Reader ℕ
any_u64 strict = number strict 0 highest_u64
