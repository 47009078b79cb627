-- The ending of a run.
use Rattle.std.specs.Prelude.{◌≡◌, ◌⊎◌}

-- the result is the wanted one, or says that memory ran out
abbrev pub EndsAs : {S : Type 0} → S → S → S → Type 0
EndsAs no_memory result wanted = (result ≡ wanted) ⊎ (result ≡ no_memory)
