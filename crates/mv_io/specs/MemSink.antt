-- A sink in memory as its callers see it, and the effect of a call.
use Rattle.std.specs.Prelude.{ℕ, ◌-◌, ◌^◌, ◌<◌, ◌≡◌, ◌⊎◌, List, [], ◌++◌, length, take, min, Contains, Result, Ok, Err}
use Rattle.mv_io.specs.Fault.{one_more}

-- the bytes taken, how many it takes in all, the most that one call takes, which calls fail, and the calls and faults so far
pub record SinkState : Type 0 where
  pub taken : List ℕ
  pub room : ℕ
  pub step : ℕ
  pub fail : List ℕ
  pub calls : ℕ
  pub faults : ℕ

-- a sink before its first call
abbrev pub fresh_sink : ℕ → ℕ → List ℕ → SinkState
fresh_sink room step fail = record { taken = []; room = room; step = step; fail = fail; calls = 0; faults = 0 }

-- a step that limits no call, since no piece is longer
abbrev pub any_step : ℕ
any_step = 2 ^ 64 - 1

-- how many more bytes the sink has room for
abbrev pub room_left : SinkState → ℕ
room_left s = s.room - length s.taken

-- how many bytes a call takes of a piece of this length, if it does not fail
abbrev pub accepted : SinkState → ℕ → ℕ
accepted s size = min s.step (min size (room_left s))

-- a call with this piece fails: it is one of those that fail, or the piece has bytes and there is no room
abbrev pub Refuses : SinkState → List ℕ → Type 0
Refuses s piece = Contains s.fail s.calls ⊎ ((0 < length piece) × (room_left s ≡ 0))

-- the sink after a call with this piece and this result
abbrev pub after_write : {E : Type 0} → SinkState → List ℕ → Result ℕ E → SinkState
after_write s piece (Ok k) = record s { taken = s.taken ++ take k piece; calls = one_more s.calls }
after_write s piece (Err _) = record s { calls = one_more s.calls; faults = one_more s.faults }
