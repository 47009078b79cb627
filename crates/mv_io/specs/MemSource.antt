-- A source in memory as its callers see it, and the effect of a call.
use Rattle.std.specs.Prelude.{ℕ, List, length, drop, min, Result, Ok, Err}
use Rattle.mv_io.specs.Fault.{one_more}

-- the bytes that are left, the most that one call gives, which calls fail, and the calls and faults so far
pub record SourceState : Type 0 where
  pub left : List ℕ
  pub step : ℕ
  pub fail : List ℕ
  pub calls : ℕ
  pub faults : ℕ

-- a source before its first call
abbrev pub fresh_source : List ℕ → ℕ → List ℕ → SourceState
fresh_source bytes step fail = record { left = bytes; step = step; fail = fail; calls = 0; faults = 0 }

-- how many bytes a call gives into a buffer of this length, if it does not fail
abbrev pub given : SourceState → ℕ → ℕ
given s room = min s.step (min room (length s.left))

-- the source after a call with this result
abbrev pub after_read : {E : Type 0} → SourceState → Result ℕ E → SourceState
after_read s (Ok k) = record s { left = drop k s.left; calls = one_more s.calls }
after_read s (Err _) = record s { calls = one_more s.calls; faults = one_more s.faults }
