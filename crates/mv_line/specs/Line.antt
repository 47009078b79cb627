-- The lines of a text, and which bytes of a line count.
use Rattle.std.specs.Prelude.{ℕ, ◌-◌, ◌==◌, Bool, false, not, nat_lt, List, [], ◌∷◌, length, take, drop, slice_index, if◌then◌else◌}
use Rattle.std.specs.List.{onto_first, prefix_len, suffix_len, after_last}
use Rattle.mv_line.specs.Byte.{is_space, has_foreign_byte}

-- The lines of a text. Each ends at an LF, which is not part of it, or at the end of the text. What follows the last LF is a line
-- only if it is not empty.
abbrev pub lines_of : List ℕ → List (List ℕ)
lines_of [] = []
lines_of (b ∷ bs) = if b == 10 then [] ∷ lines_of bs else onto_first b (lines_of bs)

-- ---- a text in which each line ends with LF

-- the text up to its last LF, with that LF; empty if there is none
abbrev pub ended_part : List ℕ → List ℕ
ended_part text = take (length text - suffix_len (λ b. not (b == 10)) text) text

-- the lines of a text up to its last LF
abbrev pub ended_lines : List ℕ → List (List ℕ)
ended_lines text = lines_of (ended_part text)

-- what follows the last LF: a line that is cut off, or nothing
abbrev pub cut_off : List ℕ → List ℕ
cut_off text = after_last (λ b. b == 10) text

-- ---- which bytes of a line count

-- a line without the CR that is its last byte, if it has one
abbrev pub without_cr : List ℕ → List ℕ
without_cr line = if slice_index line (length line - 1) == 13 then take (length line - 1) line else line

-- a text without the spaces at its end
abbrev pub without_last_spaces : List ℕ → List ℕ
without_last_spaces text = take (length text - suffix_len is_space text) text

-- a text without the spaces at its front
abbrev pub without_first_spaces : List ℕ → List ℕ
without_first_spaces text = drop (prefix_len is_space text) text

-- whether a text begins with a space
abbrev pub begins_with_space : List ℕ → Bool
begins_with_space [] = false
begins_with_space (b ∷ bs) = is_space b

-- ---- a line that a reader takes, without the CR at its end

-- the part of a line that counts: without one CR at its end, and then without the spaces at its end
abbrev pub shown : List ℕ → List ℕ
shown line = without_last_spaces (without_cr line)

-- whether a line is ignored: no byte of it counts
abbrev pub is_ignored : List ℕ → Bool
is_ignored line = length (shown line) == 0

-- whether a line has a byte that is not printable ASCII
abbrev pub is_foreign : List ℕ → Bool
is_foreign line = has_foreign_byte (without_cr line)

-- the length of the longest line, a card of the reader, in bytes
abbrev pub longest_line : ℕ
longest_line = 80

-- whether a line has more bytes than a card
abbrev pub is_too_long : List ℕ → Bool
is_too_long line = nat_lt longest_line (length (without_cr line))
