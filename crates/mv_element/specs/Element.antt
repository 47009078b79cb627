-- The states of a pause element, one for each phase.
use Rattle.std.specs.Prelude.{ℕ, ◌^◌, Bool, true, false, refl}
use Rattle.mv_element.specs.declared.element.ElementState.{ElementState}
use Rattle.mv_element.specs.declared.element.Phase.{Phase}
use Rattle.mv_element.specs.declared.element.Phase.TheVariants.{Free, Reset, Prereleased, Paused, Released}

-- the bound of generations, which have 18 bits: a run ends fewer of them
abbrev pub generation_limit : ℕ
generation_limit = 2 ^ 18

-- an element that is not allocated, of generation g
abbrev pub free : ℕ → ElementState
free g = record { generation = g; phase = Free; code = 0; kept = refl }

-- an element that is allocated, and neither paused nor released
abbrev pub reset : ℕ → ElementState
reset g = record { generation = g; phase = Reset; code = 0; kept = refl }

-- an element that was released before its pause, with code d
abbrev pub prereleased : ℕ → ℕ → ElementState
prereleased g d = record { generation = g; phase = Prereleased; code = d; kept = refl }

-- an element with which a task pauses
abbrev pub paused : ℕ → ElementState
paused g = record { generation = g; phase = Paused; code = 0; kept = refl }

-- an element whose pause was released, with code d
abbrev pub released : ℕ → ℕ → ElementState
released g d = record { generation = g; phase = Released; code = d; kept = refl }

-- the state of a phase, of generation g, with code d if the phase keeps one
abbrev pub in_phase : Phase → ℕ → ℕ → ElementState
in_phase Free g d = free g
in_phase Reset g d = reset g
in_phase Prereleased g d = prereleased g d
in_phase Paused g d = paused g
in_phase Released g d = released g d

-- whether a pause was released, and its task has not resumed yet
abbrev pub is_released : Phase → Bool
is_released Released = true
is_released _ = false
