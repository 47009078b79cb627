-- How much of a text is read.
use Rattle.std.specs.Prelude.{ℕ}

-- the most bytes of a deck, and of a script, that a command reads
abbrev pub card_limit : ℕ
card_limit = 1048576
