-- A number that tasks count up under a latch: the configuration, what each task keeps to by its own log, and what follows.
use Rattle.std.specs.Prelude.{◌≡◌, ℕ, ◌+◌, ◌*◌, ◌%◌, ◌^◌, ◌≤◌, List, [], ◌∷◌, ◌++◌, length, filter}
use Rattle.mv_wait.specs.Prelude.latch_op.{Purge}
use Rattle.mv_wait.specs.Prelude.mode.{Exclusive}
use Rattle.mv_wait.specs.Prelude.{Entry, Object, Volume, Op, Setup, BoardFace, CallerFace, is_write}
use Rattle.mv_wait.specs.Prelude.op_on
use Rattle.mv_wait.specs.Prelude.volume_op.{Write}
use Rattle.mv_ordered.specs.Held.{held}
use Rattle.mv_guarded.specs.Guarded.{HoldsLatch, HasRead, IsCareful, Keeps, value}

-- how often a task may add
abbrev pub times_limit : ℕ
times_limit = 20000

-- An addition is at most five events: the latch is obtained by at most two, the number is read and written, and the latch is released.
abbrev pub counter_setup : ℕ → Setup
counter_setup times = record {
  callers = 4;
  elements_per_caller = 1;
  volumes = 1;
  latches = 1;
  quota = 1;
  posted_quota = 0;
  budgets = 5 * times ∷ 5 * times ∷ 5 * times ∷ 5 * times ∷ [];
  owners = [];
  exits = [];
}

-- how often these entries write the number
abbrev pub additions : List Entry → ℕ
additions es = length (filter (λ e. is_write e.op) es)

-- at each moment the volume has the number of the additions so far, which wraps as a number of 32 bits does
abbrev pub IsCounted : Setup → List Entry → Type 0
IsCounted c es = (before later : List Entry) → es ≡ before ++ later → value c before 0 ≡ additions before % 2 ^ 32

-- caller k writes one more than it has read under the latch
pub record IsAddition (k x : ℕ) (log : List Entry) : Type 0 where
  pub holds : HoldsLatch 0 Exclusive k log
  pub old : ℕ
  pub read : HasRead 0 0 k old log
  pub more : x ≡ (old + 1) % 2 ^ 32

-- the rule of all tasks: a write is an addition, and no task purges a requestor
abbrev pub IsAllowed : ℕ → List Entry → Object → Op → Type 0
IsAllowed k log object (op_on.Latch (Purge requestor)) = ⊥
IsAllowed k log object (op_on.Volume (Write x)) = (object ≡ Volume 0) × IsAddition k x log
IsAllowed k log object op = Unit {0}

-- a careful task of the counter, which has no latch
pub record IsReady (b : BoardFace) (t : CallerFace) : Type 0 where
  pub config : (times : ℕ) × (b.config ≡ counter_setup times)
  pub careful : IsCareful IsAllowed b t
  pub bare : held t.log ≡ []

-- the board has the configuration for this many additions of each task
pub record IsCounter (b : BoardFace) (times : ℕ) : Type 0 where
  pub config : b.config ≡ counter_setup times
  pub few : times ≤ times_limit

-- the task of this number is back with this log, and has kept the rule
pub record HasDone (k : ℕ) (log : List Entry) : Type 0 where
  pub allowed : Keeps IsAllowed k [] log
