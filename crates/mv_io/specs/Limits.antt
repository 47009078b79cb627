-- How much one call on a stream of std moves.
use Rattle.std.specs.Prelude.{ℕ}

-- the most bytes of one call, 64 KiB
abbrev pub piece_limit : ℕ
piece_limit = 65536
