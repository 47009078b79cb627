-- What a call requires of its task, the events that a task has made, and how far these have taken its program.
use Rattle.std.specs.Prelude.{◌≡◌, ℕ, ◌+◌, ◌≤◌, List, ◌++◌, length}
use Rattle.mv_board.specs.declared.view.Sight.{Sight}
use Rattle.mv_board.specs.Faces.{BoardFace, CallerFace, IsOf, IsSame}
use Rattle.mv_calls.specs.Keeping.{Kept, kept_of}
use Rattle.mv_calls.specs.Made.{IsMade, told_by, HaveTheirWakes}
use Rattle.mv_calls.specs.Program.{Program, Call, Heard, Says, left, entries}
use Rattle.mv_calls.specs.Rest.{IsAtRest}

-- what a task keeps by its log
abbrev pub keeps : CallerFace → Kept
keeps t = kept_of t.number t.log

-- The task may begin a call of at most `most` events: it belongs to this station, it is at rest, and at least `most` events are
-- left to it.
pub record MayCall (b : BoardFace) (most : ℕ) (t : CallerFace) : Type 0 where
  pub board : IsOf b t
  pub rest : IsAtRest t.log
  pub left : most ≤ t.left

-- The task made these events and no others, each on the latch set with its wakes. They are appended to its log and to its told
-- list, and their number is taken from the events that are left; words that it read earlier stay recorded.
pub record Went (hs : List Heard) (t u : CallerFace) : Type 0 where
  pub same : IsSame t u
  pub wakes : HaveTheirWakes hs
  pub logged : u.log ≡ t.log ++ entries hs
  pub told : u.told ≡ t.told ++ told_by hs
  pub left : u.left + length hs ≡ t.left
  pub met : (more : List Sight) × (u.met ≡ t.met ++ more)

-- the task has made events of the program p, at most `most`, and q is the residual program
pub record Runs {A : Type 0} (most : ℕ) (p q : Program A) (t u : CallerFace) : Type 0 where
  pub events : List Heard
  pub went : Went events t u
  pub few : length events ≤ most
  pub says : Says p events
  pub leaves : left p events ≡ q

-- The task made the events of this call and no others, at most `most`; the call began with what the task kept by its log. Its
-- answer satisfies `Is`. The events are taken from those that are left, and words that the task read earlier stay recorded.
pub record IsServed {A : Type 0} (most : ℕ) (call : Call A) (Is : A → Type 0) (t u : CallerFace) : Type 0 where
  pub answer : A
  pub is : Is answer
  pub made : IsMade most call t.number t.log u.log t.told u.told answer
  pub same : IsSame t u
  pub left : u.left + length made.events ≡ t.left
  pub met : (more : List Sight) × (u.met ≡ t.met ++ more)

-- the call was made so, and returned this answer
abbrev pub Serves : {A : Type 0} → ℕ → Call A → A → CallerFace → CallerFace → Type 0
Serves most call answer t u = IsServed most call (λ a. a ≡ answer) t u
