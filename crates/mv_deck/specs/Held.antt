-- The latches that a job holds after some of its steps, and which step may follow.
use Rattle.std.specs.Prelude.{ℕ, ◌≤◌, ◌==◌, Bool, true, false, not, List, [], ◌∷◌, drop, fold, Option, Some, None, is_none, is_some}
use Rattle.std.specs.Prelude.{if◌then◌else◌}
use Rattle.std.specs.List.{list_any}
use Rattle.mv_latch.specs.declared.request.Mode.{Mode}
use Rattle.mv_latch.specs.declared.request.Mode.TheVariants.{Exclusive}
use Rattle.mv_deck.specs.Operand.{highest_latch}
use Rattle.mv_deck.specs.declared.deck.Step.{Step}
use Rattle.mv_deck.specs.declared.deck.Step.TheVariants.{Print, Use, Free, Count, Scan, Abend, Return}

-- if a step names a latch or a volume, that is one of the eight
abbrev pub HasNumberInRange : Step → Type 0
HasNumberInRange (Print text) = Unit {0}
HasNumberInRange (Use latch mode) = latch ≤ highest_latch
HasNumberInRange (Free latch) = latch ≤ highest_latch
HasNumberInRange (Count volume amount) = volume ≤ highest_latch
HasNumberInRange (Scan volume) = volume ≤ highest_latch
HasNumberInRange (Abend code) = Unit {0}
HasNumberInRange (Return code) = Unit {0}

-- the mode in which a latch is held after one more step, if it is held
abbrev pub held_behind : ℕ → Option Mode → Step → Option Mode
held_behind latch mode (Use used by) = if used == latch then Some by else mode
held_behind latch mode (Free freed) = if freed == latch then None else mode
held_behind latch mode _ = mode

-- the mode in which a job holds a latch after these steps, if it does: that of its last USE, unless a FREE follows that
abbrev pub held : List Step → ℕ → Option Mode
held steps latch = fold (held_behind latch) None steps

-- the numbers of the latches
abbrev pub latches : List ℕ
latches = 0 ∷ 1 ∷ 2 ∷ 3 ∷ 4 ∷ 5 ∷ 6 ∷ 7 ∷ []

-- whether a job holds this latch or one above it
abbrev pub holds_from : List Step → ℕ → Bool
holds_from steps latch = list_any (λ l. is_some (held steps l)) (drop latch latches)

-- whether a latch is held exclusively
abbrev pub is_exclusive : Option Mode → Bool
is_exclusive (Some Exclusive) = true
is_exclusive _ = false

-- whether a step is a USE of a latch that is not above every latch that the job holds after the steps `done`
abbrev pub is_out_of_order : List Step → Step → Bool
is_out_of_order done (Use latch mode) = holds_from done latch
is_out_of_order done _ = false

-- whether a step lacks its latch after the steps `done`: a FREE of a latch that is not held, a COUNT of a volume whose latch is
-- not held exclusively, or a SCAN of one whose latch is not held
abbrev pub lacks_latch : List Step → Step → Bool
lacks_latch done (Free latch) = is_none (held done latch)
lacks_latch done (Count volume amount) = not (is_exclusive (held done volume))
lacks_latch done (Scan volume) = is_none (held done volume)
lacks_latch done _ = false

-- whether a job ends with this step
abbrev pub is_end : Step → Bool
is_end (Abend code) = true
is_end (Return code) = true
is_end _ = false
