-- How the fields of a line are joined.
use Rattle.std.specs.Prelude.{ℕ, List, ◌++◌, codes}

-- the operator that joins two fields, which associates to the right
infixr 60 ◌<+>◌
-- two fields with one space between
abbrev pub ◌<+>◌ : List ℕ → List ℕ → List ℕ
a <+> b = a ++ (codes " " ++ b)
