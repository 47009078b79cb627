-- The operations on a pause element, as a table of phases: a function for each row, a line for each cell.
use Rattle.std.specs.Prelude.{ℕ, ◌+◌, ◌^◌, ◌<◌, ◌==◌, Bool, true, false, if◌then◌else◌}
use Rattle.mv_element.specs.declared.element.ElementState.{ElementState}
use Rattle.mv_element.specs.declared.element.Phase.{Phase}
use Rattle.mv_element.specs.declared.element.Phase.TheVariants.{Free, Reset, Prereleased, Paused, Released}
use Rattle.mv_element.specs.declared.operation.ElementOp.{ElementOp}
use Rattle.mv_element.specs.declared.operation.ElementOp.TheVariants.{Open, Pause, Resume, Release, Close, Test}
use Rattle.mv_element.specs.declared.operation.ElementReply.{ElementReply}
use Rattle.mv_element.specs.declared.operation.ElementReply.TheVariants.{Opened, InUse, Parked, Given, Spent, Busy}
use Rattle.mv_element.specs.declared.operation.ElementReply.TheVariants.{NotYet, Early, Woke, Already, Closed, State}
use Rattle.mv_element.specs.Element.{free, reset, prereleased, paused, released}

-- the bound of release codes, which have three bytes
abbrev pub release_limit : ℕ
release_limit = 2 ^ 24

-- an operation's release code is below the limit
abbrev pub IsElementOp : ElementOp → Type 0
IsElementOp Open = Unit {0}
IsElementOp (Pause g) = Unit {0}
IsElementOp (Resume g) = Unit {0}
IsElementOp (Release g d) = d < release_limit
IsElementOp (Close g) = Unit {0}
IsElementOp Test = Unit {0}

-- whether an element is allocated and its generation `now` is g
abbrev pub is_current : Phase → ℕ → ℕ → Bool
is_current Free now g = false
is_current _ now g = g == now

-- the outcome of an operation that names generation g: its cell of the table if g is current, otherwise Spent and no change
abbrev pub current : ℕ → ElementState → ElementState × ElementReply → ElementState × ElementReply
current g s cell = if is_current s.phase s.generation g then cell else (s, Spent s.generation)

-- the kept code is handed over, and the next generation begins
abbrev pub given_step : ElementState → ElementState × ElementReply
given_step s = (reset (s.generation + 1), Given s.code (s.generation + 1))

-- Open: allocates a free element
abbrev pub open_step : Phase → ElementState → ElementState × ElementReply
open_step Free s = (reset s.generation, Opened s.generation)
open_step _ s = (s, InUse)

-- Pause: begins the pause, or takes the code that is kept for it
abbrev pub pause_step : Phase → ElementState → ElementState × ElementReply
pause_step Reset s = (paused s.generation, Parked)
pause_step Prereleased s = given_step s
pause_step _ s = (s, Busy)

-- Resume: ends a pause that was released
abbrev pub resume_step : Phase → ElementState → ElementState × ElementReply
resume_step Paused s = (s, NotYet)
resume_step Released s = given_step s
resume_step _ s = (s, Busy)

-- Release: keeps the code for a pause that has not begun, or ends one that has
abbrev pub release_step : Phase → ℕ → ElementState → ElementState × ElementReply
release_step Reset d s = (prereleased s.generation d, Early)
release_step Paused d s = (released s.generation d, Woke)
release_step _ d s = (s, Already)

-- Close: frees an element with which no task pauses, and ends its generation; a code that was kept is dropped
abbrev pub close_step : Phase → ElementState → ElementState × ElementReply
close_step Reset s = (free (s.generation + 1), Closed)
close_step Prereleased s = (free (s.generation + 1), Closed)
close_step _ s = (s, Busy)

-- the table: the operation and the state give the new state and the reply
abbrev pub element_step : ElementOp → ElementState → ElementState × ElementReply
element_step Open s = open_step s.phase s
element_step (Pause g) s = current g s (pause_step s.phase s)
element_step (Resume g) s = current g s (resume_step s.phase s)
element_step (Release g d) s = current g s (release_step s.phase d s)
element_step (Close g) s = current g s (close_step s.phase s)
element_step Test s = (s, State s)

-- whether a reply says that the generation is over
abbrev pub ends_generation : ElementReply → Bool
ends_generation (Given code next) = true
ends_generation Closed = true
ends_generation _ = false
