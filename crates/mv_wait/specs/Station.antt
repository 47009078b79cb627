-- The invariant of a station. Contracts see a station as its board.
use Rattle.std.specs.Prelude.{◌≡◌, vec_len}
use Rattle.mv_wait.specs.declared.station.Station.TheInside.{Inside}

-- the station has a waker for each task
pub record IsStation (s : Inside) : Type 0 where
  pub wakers : vec_len s.wakers ≡ s.board.config.callers
