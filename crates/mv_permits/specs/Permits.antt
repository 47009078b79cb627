-- What the tasks of a pool keep to, each by its own log, and what follows for all of them.
use Rattle.std.specs.Prelude.{◌≡◌, ℕ, ◌+◌, ◌<◌, ◌≤◌, Bool, true, false, not, List, [], ◌∷◌, ◌++◌, get_or}
use Rattle.mv_wait.specs.Prelude.latch_op.{Purge}
use Rattle.mv_wait.specs.Prelude.mode.{Exclusive}
use Rattle.mv_wait.specs.Prelude.{Entry, Object, Volume, Op, of, Setup, BoardFace, CallerFace, IsOf, IsAtRest}
use Rattle.mv_wait.specs.Prelude.op_on
use Rattle.mv_wait.specs.Prelude.volume_op.{Write}
use Rattle.mv_ordered.specs.Held.{held}
use Rattle.mv_ordered.specs.LatchOrder.{HasLockDiscipline}
use Rattle.mv_guarded.specs.Guarded.{HoldsLatch, Keeps, HasRead, value}
use Rattle.mv_permits.specs.Setup.{workers, permits, tries_limit, pool_setup}

-- ---- what a log says

-- Whether a task has a permit after an operation: a write of a volume takes one, and the next gives it back. The pool has one volume, and the
-- clause `counted` of `share` says that it counts these permits.
abbrev pub permit_with : Bool → Object → Op → Bool
permit_with has (Volume n) (op_on.Volume (Write x)) = not has
permit_with has object op = has

abbrev pub permit_from : Bool → List Entry → Bool
permit_from has [] = has
permit_from has (e ∷ es) = permit_from (permit_with has e.object e.op) es

-- whether it has one after its log
abbrev pub has_permit : List Entry → Bool
has_permit log = permit_from false log

-- how many permits a task gives back by an operation: one, if it writes while it has a permit
abbrev pub given_with : Bool → Object → Op → ℕ
given_with true (Volume n) (op_on.Volume (Write x)) = 1
given_with has object op = 0

abbrev pub given_from : Bool → List Entry → ℕ
given_from has [] = 0
given_from has (e ∷ es) = given_with has e.object e.op + given_from (permit_with has e.object e.op) es

-- how many permits it took and gave back by its log
abbrev pub given_back : List Entry → ℕ
given_back log = given_from false log

-- A task without a permit takes one that is free, and a task with one gives it back: the number of permits that are out goes from old to
-- new.
abbrev pub Moves : Bool → ℕ → ℕ → Type 0
Moves false old new = (old < permits) × (new ≡ old + 1)
Moves true old new = old ≡ new + 1

-- ---- what each task keeps to

-- caller k takes or gives back a permit by this write, after it has read the number under the latch
pub record IsMove (k n x : ℕ) (log : List Entry) : Type 0 where
  pub here : n ≡ 0
  pub holds : HoldsLatch 0 Exclusive k log
  pub old : ℕ
  pub read : HasRead 0 0 k old log
  pub moves : Moves (has_permit log) old x

-- after these entries caller k may do so: it writes only to move a permit, and purges nobody
abbrev pub IsAllowed : ℕ → List Entry → Object → Op → Type 0
IsAllowed k log object (op_on.Latch (Purge requestor)) = ⊥
IsAllowed k log (Volume n) (op_on.Volume (Write x)) = IsMove k n x log
IsAllowed k log object op = Unit {0}

-- a task of the pool between two calls
pub record IsPooled (b : BoardFace) (t : CallerFace) : Type 0 where
  pub config : (tries : ℕ) × (b.config ≡ pool_setup tries)
  pub task : IsOf b t
  pub rest : IsAtRest t.log
  pub allowed : Keeps IsAllowed t.number [] t.log
  pub discipline : HasLockDiscipline t.log

-- the board has the configuration for this many tries
pub record IsPool (b : BoardFace) (tries : ℕ) : Type 0 where
  pub config : b.config ≡ pool_setup tries
  pub few : tries ≤ tries_limit

-- The task of this number is back. It has kept to that and to the lock discipline, and released the latch; a worker took a permit and gave it
-- back for each shift that it counts.
pub record HasDone (k : ℕ) (log : List Entry) (shifts : ℕ) : Type 0 where
  pub allowed : Keeps IsAllowed k [] log
  pub discipline : HasLockDiscipline log
  pub bare : held log ≡ []
  pub worked : k < workers → shifts ≡ given_back log

-- ---- what comes of it

-- how many permits a task has
abbrev pub one : Bool → ℕ
one true = 1
one false = 0

-- how many of the tasks have a permit after these entries
abbrev pub at_work : List Entry → ℕ
at_work es = one (has_permit (of 0 es)) + one (has_permit (of 1 es)) + one (has_permit (of 2 es)) + one (has_permit (of 3 es))

-- at no moment more than there are
abbrev pub IsBounded : List Entry → Type 0
IsBounded es = (before later : List Entry) → es ≡ before ++ later → at_work before ≤ permits

-- at each moment the volume has the number of the permits that are out
abbrev pub IsCounted : Setup → List Entry → Type 0
IsCounted c es = (before later : List Entry) → es ≡ before ++ later → value c before 0 ≡ at_work before

-- each worker took a permit and gave it back exactly as often as these counts of shifts say
abbrev pub HaveWorked : List Entry → List ℕ → Type 0
HaveWorked es shifts = (k : ℕ) → k < workers → get_or shifts k 0 ≡ given_back (of k es)
