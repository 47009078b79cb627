-- What the lines of a script may name so far.
use Rattle.std.specs.Prelude.{ℕ, Option}
use Rattle.mv_calls.specs.declared.table.Table.{Table}

-- how many tasks and event control blocks, and the table of events, if there is one
pub record SizesFace : Type 0 where
  pub tasks : ℕ
  pub ecbs : ℕ
  pub table : Option Table
