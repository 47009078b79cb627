-- Calls that a task has run, or a part of them.
use Rattle.std.specs.Prelude.{◌≡◌, List}
use Rattle.mv_board.specs.Faces.{CallerFace}
use Rattle.mv_calls.specs.Keeping.{kept_of}
use Rattle.mv_calls.specs.Program.{Program, Done, Wrong, Do, Early, Call, Heard, Says, left}
use Rattle.mv_calls.specs.Rest.{IsAtRest}
use Rattle.mv_wait.specs.Run.{Went}

-- The call was begun with what the task kept of its log, the task made these events, which are what the call says, and this is
-- left of it. The task is at rest.
pub record Ran {A : Type 0} (call : Call A) (later : Program A) (t u : CallerFace) : Type 0 where
  pub events : List Heard
  pub went : Went events t u
  pub says : Says (call (kept_of t.number t.log)) events
  pub leaves : left (call (kept_of t.number t.log)) events ≡ later
  pub quiet : IsAtRest u.log

-- a program says nothing more: it is done with this answer, or met a reply that nothing foresees
abbrev pub IsOver : {A : Type 0} → A → Program A → Type 0
IsOver a (Done b) = b ≡ a
IsOver a Wrong = Unit {0}
IsOver a (Do object op next) = ⊥
IsOver a Early = ⊥

-- The call was run to its end: it is done with this answer, or it stopped at a reply that its program does not foresee. No run of the
-- plan meets such a reply.
pub record RanOut {A : Type 0} (call : Call A) (a : A) (t u : CallerFace) : Type 0 where
  pub last : Program A
  pub over : IsOver a last
  pub ran : Ran call last t u

-- The whole was begun by the task as it was at t, and this later part of it is what is to be done from u on: whatever the part
-- comes to, the whole comes to.
abbrev pub Leads : {A : Type 0} → Call A → Call A → CallerFace → CallerFace → Type 0
Leads {A} whole later t u = (q : Program A) (v : CallerFace) → Ran later q u v → Ran whole q t v
