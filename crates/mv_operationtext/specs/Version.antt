-- The versions of the text.
use Rattle.std.specs.Prelude.{ℕ}
use Rattle.mv_operationtext.specs.declared.version.Version.{Version}
use Rattle.mv_operationtext.specs.declared.version.Version.TheVariants.{One, Two}

-- the number of a version
abbrev pub number_of : Version → ℕ
number_of One = 1
number_of Two = 2
