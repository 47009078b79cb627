-- The number of a call that one entry's line has: one in version 2, and none in version 1.
use Rattle.std.proofs.Common.{ℕ, ◌≤◌, Option, Some, None}
use Rattle.mv_operationtext.specs.declared.version.Version.{Version}
use Rattle.mv_operationtext.specs.declared.version.Version.TheVariants.{One, Two}
use Rattle.mv_operationtext.specs.Ranges.{highest_u32}

-- the number that an entry's line may have
abbrev pub IsCallIn : Version → Option ℕ → Type 0
IsCallIn One None = Unit {0}
IsCallIn One (Some n) = ⊥
IsCallIn Two None = ⊥
IsCallIn Two (Some n) = n ≤ highest_u32
