-- The text of a fault: its line, its kind, the sentence of the kind, and the line itself.
use Rattle.std.specs.Prelude.{ℕ, ◌+◌, ◌==◌, not, min, List, [], ◌∷◌, ◌++◌, length, take, slice_index, codes, decimal}
use Rattle.std.specs.Prelude.{Option, Some, None, if◌then◌else◌}
use Rattle.std.specs.List.{position}
use Rattle.mv_line.specs.Byte.{is_printable, has_foreign_byte}
use Rattle.mv_line.specs.Line.{lines_of, without_cr}
use Rattle.mv_line.specs.declared.fault.TextFault.{TextFault}
use Rattle.mv_diagnostics.specs.declared.sentences.TheConstants.{BYTE, COLUMN, KIND, LINE, QUOTE}
use Rattle.mv_diagnostics.specs.Sentence.{byte_name}

-- ---- the line of a number

-- the line of this number among lines that are counted from another; nothing if there is none
abbrev pub line_from : ℕ → ℕ → List (List ℕ) → List ℕ
line_from number here [] = []
line_from number here (line ∷ lines) = if here == number then line else line_from number (here + 1) lines

-- the line of this number, counted from 1
unfoldable pub line_at : List ℕ → ℕ → List ℕ
line_at bytes number = line_from number 1 (lines_of bytes)

-- ---- where it is

-- which byte is at this place of a line; columns count from 1
abbrev pub byte_text : ℕ → ℕ → List ℕ
byte_text place byte =
    (COLUMN.now ++ decimal (place + 1)) ++ (BYTE.now ++ decimal byte) ++ byte_name byte ++ codes "\n"

-- the same of the byte at a place, if there is one
abbrev pub column_of : List ℕ → Option ℕ → List ℕ
column_of line None = []
column_of line (Some place) = byte_text place (slice_index line place)

-- where the first byte of a line is that is not printable, if it has one
unfoldable pub column_text : List ℕ → List ℕ
column_text line = column_of line (position (λ b. not (is_printable b)) line)

-- the first bytes of a line, if they are printable and there is one
abbrev pub front_text : List ℕ → List ℕ
front_text front =
    if length front == 0 then [] else if has_foreign_byte front then [] else QUOTE.now ++ front ++ codes "\n"

-- so of a line, of which at most 100 bytes are shown
unfoldable pub quote_text : List ℕ → List ℕ
quote_text line = front_text (take (min (length line) 100) line)

-- the line of this number, as it is shown
unfoldable pub place_text : List ℕ → ℕ → List ℕ
place_text bytes number = quote_text (without_cr (line_at bytes number)) ++ column_text (without_cr (line_at bytes number))

-- ---- a fault

-- which fault a text has, what that means, and where it is
unfoldable pub fault_text : (name bytes : List ℕ) → TextFault → (sentence : List ℕ) → List ℕ
fault_text name bytes fault sentence =
    name ++ (LINE.now ++ decimal fault.line) ++ (KIND.now ++ decimal fault.kind) ++ codes ": " ++ sentence ++ codes "\n"
    ++ place_text bytes fault.line
