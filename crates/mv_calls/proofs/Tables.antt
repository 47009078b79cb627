-- The search of a table's blocks, range after range.
use Rattle.std.proofs.Common.{◌≡◌, ℕ, ◌≤◌, Bool, ◌++◌, length, find, None, ap, ◌∙◌, arith}
use Rattle.std.proofs.lemmas.List.Folds.{find-append}
use Rattle.std.specs.List.{range_with_len}
use Rattle.std.specs.Option.{option_or}
use Rattle.mv_config.specs.Check.{IsValid, first_limit}
use Rattle.mv_config.specs.Limits.{ecbs_limit}
use Rattle.mv_config.specs.Setup.{Setup}
use Rattle.mv_config.proofs.Validity.{no_bad_limit}
use Rattle.mv_calls.specs.declared.table.Table.{Table}
use Rattle.mv_calls.specs.Table.{blocks_of_table}

-- a configuration has no more blocks than it may
pub few_blocks : (c : Setup) → IsValid c → length c.owners ≤ ecbs_limit
few_blocks c v = let f : first_limit c ≡ None = no_bad_limit c v in grind arith

-- what is found in the lower range is found in the table; what is not, is found in the higher one, or nowhere
pub found_in : (test : ℕ → Bool) (t : Table) (low high : ℕ)
    → blocks_of_table t ≡ range_with_len low t.size ++ range_with_len high t.size
    → find test (blocks_of_table t) ≡ option_or (find test (range_with_len low t.size)) (find test (range_with_len high t.size))
found_in test t low high rising = ap (find test) rising ∙ find-append test (range_with_len low t.size) (range_with_len high t.size)
