-- The latches that a job holds before a line of it that has a fault: as the lines above it state them, read as a deck of their own.
use Rattle.std.specs.Prelude.{ℕ, zero, suc, ◌+◌, ◌-◌, ◌==◌, nat_lt, ◌||◌, List, [], ◌∷◌, ◌++◌, length, slice_get, codes, decimal}
use Rattle.std.specs.Prelude.{Option, Some, None, if◌then◌else◌}
use Rattle.mv_latch.specs.declared.request.Mode.{Mode}
use Rattle.mv_latch.specs.declared.request.Mode.TheVariants.{Shared, Exclusive}
use Rattle.mv_line.specs.Line.{lines_of}
use Rattle.mv_line.specs.declared.fault.TextFault.{TextFault}
use Rattle.mv_deck.specs.declared.deck.Step.{Step}
use Rattle.mv_deck.specs.declared.fault.Kind.TheVariants.{LatchOrder, LatchNotHeld}
use Rattle.mv_deck.specs.Deck.{JobData, deck_of}
use Rattle.mv_deck.specs.Fault.{first_fault, kind_number}
use Rattle.mv_deck.specs.Held.{held}
use Rattle.mv_diagnostics.specs.Limits.{card_limit}
use Rattle.mv_diagnostics.specs.declared.sentences.TheConstants.{EXCLUSIVE, HOLDS, HOLDS_NONE, JOB, SHARED}

-- ---- the lines above one

-- the lines above the one of this number, among lines that are counted from `here`
abbrev pub lines_above : (number here : ℕ) → List (List ℕ) → List ℕ
lines_above number here [] = []
lines_above number here (line ∷ lines) =
    if nat_lt here number then line ++ codes "\n" ++ lines_above number (here + 1) lines else []

-- these lines and the null statement
unfoldable pub deck_above : List ℕ → ℕ → List ℕ
deck_above bytes number = lines_above number 1 (lines_of bytes) ++ codes "//\n"

-- ---- the latches of a job

-- a mode, as a USE states it
abbrev pub mode_text : Mode → List ℕ
mode_text Shared = SHARED.now
mode_text Exclusive = EXCLUSIVE.now

-- the job of this name
unfoldable pub name_text : (name : List ℕ) → List ℕ
name_text name = JOB.now ++ name

-- the job of this name holds a latch in a mode
unfoldable pub holds_text : (name : List ℕ) → (latch : ℕ) → Mode → List ℕ
holds_text name latch mode = name_text name ++ (HOLDS.now ++ decimal latch) ++ mode_text mode

-- the same if it does
abbrev pub latch_text : (name : List ℕ) → (latch : ℕ) → Option Mode → List ℕ
latch_text name latch None = []
latch_text name latch (Some mode) = holds_text name latch mode

-- which of `count` latches, from one on, it holds after these steps
abbrev pub latches_text : (name : List ℕ) → List Step → (from count : ℕ) → List ℕ
latches_text name steps from zero = []
latches_text name steps from (suc count) = latch_text name from (held steps from) ++ latches_text name steps (from + 1) count

-- what is said of its latches, or that it holds none
abbrev pub or_none : (name latches : List ℕ) → List ℕ
or_none name latches = if length latches == 0 then name_text name ++ HOLDS_NONE.now else latches

-- which of the eight latches a job holds after its steps
unfoldable pub holder_text : JobData → List ℕ
holder_text j = or_none j.name (latches_text j.name j.steps 0 8)

-- ---- the job of a line

-- which latches a job holds, if there is one
abbrev pub of_job : Option JobData → List ℕ
of_job None = []
of_job (Some j) = holder_text j

-- which latches the last job holds
abbrev pub last_text : List JobData → List ℕ
last_text jobs = of_job (slice_get jobs (length jobs - 1))

-- the same of a deck, if it has no fault
abbrev pub held_by : Option TextFault → List JobData → List ℕ
held_by None jobs = last_text jobs
held_by (Some fault) jobs = []

-- which latches the last job of a deck holds at its end
unfoldable pub held_at_end : List ℕ → List ℕ
held_at_end deck = if nat_lt card_limit (length deck) then [] else held_by (first_fault deck 1) (deck_of deck)

-- which latches the job of this line holds before it
unfoldable pub held_text : List ℕ → ℕ → List ℕ
held_text bytes number = held_at_end (deck_above bytes number)

-- the same if a fault is about the latches that the job holds
abbrev pub held_of_fault : List ℕ → TextFault → List ℕ
held_of_fault bytes fault =
    if fault.kind == kind_number LatchOrder || fault.kind == kind_number LatchNotHeld then held_text bytes fault.line else []
