-- The release code that an element keeps.
use Rattle.std.specs.Prelude.{ℕ, ◌==◌, ◌||◌, Bool, true, false, IsTrue}
use Rattle.mv_element.specs.declared.element.Phase.{Phase}
use Rattle.mv_element.specs.declared.element.Phase.TheVariants.{Prereleased, Released}

-- whether an element of this phase keeps a code: a release was accepted, and the pause has not taken its code
abbrev pub keeps_code : Phase → Bool
keeps_code Prereleased = true
keeps_code Released = true
keeps_code _ = false

-- an element of this phase may have this code: it is 0 unless the phase keeps one
abbrev pub IsKeptCode : Phase → ℕ → Type 0
IsKeptCode phase code = IsTrue (keeps_code phase || code == 0)
