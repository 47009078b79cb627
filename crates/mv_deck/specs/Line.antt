-- The lines of a deck that state something, and the parts of a list.
use Rattle.std.specs.Prelude.{ℕ, ◌+◌, Bool, ◌==◌, ◌||◌, nat_eq, List, take, drop, position, Option, option_map, codes}
use Rattle.std.specs.List.{position_or_len, starts_with}
use Rattle.mv_line.specs.Line.{shown, is_ignored}

-- whether a text is a comment: an asterisk follows the slashes at once
abbrev pub is_comment : List ℕ → Bool
is_comment text = starts_with nat_eq text (codes "//*")

-- whether a line states nothing: it is ignored, or a comment
abbrev pub is_passed : List ℕ → Bool
is_passed line = is_ignored line || is_comment (shown line)

-- ---- the parts of a list

-- the comma, which separates the parts of a list; parts may be empty, and there is always one
abbrev pub comma : ℕ
comma = 44

-- whether a byte is the colon, which separates a name from the accepted code
abbrev pub is_colon : ℕ → Bool
is_colon b = b == 58

-- what precedes the first colon of a part; the whole part if there is none
abbrev pub before_colon : List ℕ → List ℕ
before_colon part = take (position_or_len is_colon part) part

-- what follows the first colon of a part, if there is one
abbrev pub behind_colon : List ℕ → Option (List ℕ)
behind_colon part = option_map (λ place. drop (place + 1) part) (position is_colon part)
