-- What contracts see of a sink over a writer of std.
use Rattle.std.specs.Prelude.{ℕ}
use Rattle.mv_io.specs.declared.standard.StdSink.{StdSink}

-- the writer inside
abbrev pub std_sink_writer : {W : Type 0} → StdSink W → W
std_sink_writer s = s.inner

-- how often a write failed
abbrev pub std_sink_faults : {W : Type 0} → StdSink W → ℕ
std_sink_faults s = s.faults
