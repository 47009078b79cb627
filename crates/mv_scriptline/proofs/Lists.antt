-- Values that are read one by one, a word each.
use Rattle.std.proofs.Common.{ℕ, List, ◌++◌, Option, Some, None, Ok, Err}
use Rattle.mv_scriptline.specs.declared.words.Misread.{Misread}
use Rattle.mv_scriptline.specs.Words.{Read, making, both}

-- what was read so far
abbrev pub so_far : Option Misread → List ℕ → Read (List ℕ)
so_far None numbers = Ok numbers
so_far (Some why) numbers = Err why

-- and more behind it
abbrev pub continued : Read (List ℕ) → Read (List ℕ) → Read (List ℕ)
continued read more = making (λ (p : List ℕ × List ℕ). p.0 ++ p.1) (both read more)
