-- What contracts see of a source over a reader of std.
use Rattle.std.specs.Prelude.{ℕ}
use Rattle.mv_io.specs.declared.standard.StdSource.{StdSource}

-- the reader inside
abbrev pub std_source_reader : {R : Type 0} → StdSource R → R
std_source_reader s = s.inner

-- how often the reader failed
abbrev pub std_source_faults : {R : Type 0} → StdSource R → ℕ
std_source_faults s = s.faults
