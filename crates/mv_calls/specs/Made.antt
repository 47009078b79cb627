-- A call that was made: the events by which it extended its task's log, and its answer. The contract of each call of the
-- services ensures this.
use Rattle.std.specs.Prelude.{◌≡◌, ℕ, List, [], ◌∷◌, ◌++◌, ◌≤◌, length}
use Rattle.mv_latch.specs.declared.operation.Wake.{Wake}
use Rattle.mv_machine.specs.declared.entry.Entry.{Entry}
use Rattle.mv_machine.specs.declared.entry.Object.{Object}
use Rattle.mv_machine.specs.declared.entry.Object.TheVariants.{Latches}
use Rattle.mv_machine.specs.declared.entry.Op.{Op}
use Rattle.mv_machine.specs.declared.entry.Op.TheVariants as op_on
use Rattle.mv_calls.specs.Keeping.{kept_of}
use Rattle.mv_calls.specs.Program.{Call, Heard, IsDoneOn, entries}
use Rattle.mv_calls.specs.Rest.{IsAtRest}

-- the wakes that an event shows its caller: one list if the event is on the latch set, otherwise none
abbrev pub told_with : Object → Op → List Wake → List (List Wake)
told_with Latches (op_on.Latch op) ws = ws ∷ []
told_with o op ws = []

-- the wakes that all of these events show
abbrev pub told_by : List Heard → List (List Wake)
told_by [] = []
told_by (h ∷ hs) = told_with h.entry.object h.entry.op h.wakes ++ told_by hs

-- an event on the latch set may have any wakes, and every other event has none
abbrev pub HasItsWakes : Object → Op → List Wake → Type 0
HasItsWakes Latches (op_on.Latch op) ws = Unit {0}
HasItsWakes o op ws = ws ≡ []

-- each of these events has its wakes
abbrev pub HaveTheirWakes : List Heard → Type 0
HaveTheirWakes [] = Unit {0}
HaveTheirWakes (h ∷ hs) = HasItsWakes h.entry.object h.entry.op h.wakes × HaveTheirWakes hs

-- a log, and the list of wakes that its caller was shown, were extended by these events and their wakes
pub record IsLongerBy (events : List Heard) (old new : List Entry) (told_before told_since : List (List Wake)) : Type 0 where
  pub wakes : HaveTheirWakes events
  pub logged : new ≡ old ++ entries events
  pub told : told_since ≡ told_before ++ told_by events

-- Caller k made a call, in at most `most` events: it began at rest with what the caller keeps of its log, it is done on these
-- events with this answer, they extended the log and the wakes that the caller was shown, and the caller is at rest again.
pub record IsMade {A : Type 0} (most : ℕ) (call : Call A) (k : ℕ) (old new : List Entry) (told_before told_since : List (List Wake))
    (answer : A) : Type 0 where
  pub began : IsAtRest old
  pub events : List Heard
  pub longer : IsLongerBy events old new told_before told_since
  pub few : length events ≤ most
  pub done : IsDoneOn (call (kept_of k old)) events answer
  pub rest : IsAtRest new
