-- What an input is taken for, by the first bytes that are no spaces or line ends.
use Rattle.std.specs.Prelude.{ℕ, Bool, nat_eq, nat_lt, List, drop, codes, Option, Some, None, if◌then◌else◌}
use Rattle.std.specs.List.{position, starts_with}
use Rattle.mv_explain.specs.declared.subject.Subject.{Subject}
use Rattle.mv_explain.specs.declared.subject.Subject.TheVariants.{Nothing, Deck, Script, Journal, Other}

-- neither a space nor a line end nor another control character
abbrev pub is_visible : ℕ → Bool
is_visible b = nat_lt 32 b

-- what a text is, by its first bytes
abbrev pub subject_from : List ℕ → Subject
subject_from text =
    if starts_with nat_eq text (codes "//") then Deck
    else if starts_with nat_eq text (codes "SCRIPT") then Script
    else if starts_with nat_eq text (codes "JOURNAL") then Journal
    else Other

-- the same from a place on, if there is one
abbrev pub subject_at : List ℕ → Option ℕ → Subject
subject_at bytes None = Nothing
subject_at bytes (Some place) = subject_from (drop place bytes)

-- what an input is taken for
abbrev pub subject_of : List ℕ → Subject
subject_of bytes = subject_at bytes (position is_visible bytes)
