-- What the tasks of a shared pair keep to, each by its own log, and what a reader has read.
use Rattle.std.specs.Prelude.{◌≡◌, ℕ, ◌≤◌, List, [], ◌∷◌, ◌++◌, ◌⊎◌, length}
use Rattle.std.specs.List.{AllByRecursion, Contains}
use Rattle.mv_wait.specs.Prelude.latch_op.{Purge}
use Rattle.mv_wait.specs.Prelude.mode.{Exclusive, Shared}
use Rattle.mv_wait.specs.Prelude.{Entry, Object, Op, BoardFace, CallerFace, IsOf, IsAtRest}
use Rattle.mv_wait.specs.Prelude.op_on
use Rattle.mv_wait.specs.Prelude.volume_op.{Write}
use Rattle.mv_ordered.specs.Held.{held}
use Rattle.mv_ordered.specs.LatchOrder.{HasLockDiscipline}
use Rattle.mv_guarded.specs.Guarded.{HoldsLatch, Keeps, value_from, Reads}
use Rattle.mv_cache.specs.declared.cache.Pair.{Pair}
use Rattle.mv_cache.specs.Setup.{pairs_limit, reads_limit, cache_setup}

-- the pair that the volumes have before the first write
abbrev pub first_pair : Pair
first_pair = record { left = 0; right = 0 }

-- ---- what a log says

-- the pair that these entries wrote last
abbrev pub pair_of : List Entry → Pair
pair_of log = record { left = value_from 0 0 log; right = value_from 1 0 log }

-- ---- what every task keeps to

-- the rule of all tasks: only the writer, caller 0, writes, and only while it holds the latch alone; no task purges a requestor
abbrev pub IsAllowed : ℕ → List Entry → Object → Op → Type 0
IsAllowed k log object (op_on.Latch (Purge requestor)) = ⊥
IsAllowed k log object (op_on.Volume (Write x)) = (k ≡ 0) × HoldsLatch 0 Exclusive k log
IsAllowed k log object op = Unit {0}

-- a task of the board that is at rest, and has kept that rule and the lock discipline
pub record IsCareful (b : BoardFace) (t : CallerFace) : Type 0 where
  pub config : (pairs reads : ℕ) × (b.config ≡ cache_setup pairs reads)
  pub task : IsOf b t
  pub rest : IsAtRest t.log
  pub allowed : Keeps IsAllowed t.number [] t.log
  pub discipline : HasLockDiscipline t.log

-- ---- the writer

-- the writer holds the latch alone, or what it wrote last is a pair of these, or the first
abbrev pub IsWhole : List Pair → List Entry → Type 0
IsWhole pairs log = HoldsLatch 0 Exclusive 0 log ⊎ Contains (first_pair ∷ pairs) (pair_of log)

-- this holds at each moment of its log
abbrev pub StaysWhole : List Pair → List Entry → List Entry → Type 0
StaysWhole pairs before [] = IsWhole pairs before
StaysWhole pairs before (e ∷ es) = IsWhole pairs before × StaysWhole pairs (before ++ e ∷ []) es

-- the writer between two pairs
pub record IsWriting (b : BoardFace) (pairs : List Pair) (t : CallerFace) : Type 0 where
  pub careful : IsCareful b t
  pub number : t.number ≡ 0
  pub whole : StaysWhole pairs [] t.log
  pub written : Contains (first_pair ∷ pairs) (pair_of t.log)

-- ---- a reader

-- a reader between two reads: any task but the writer
pub record IsReading (b : BoardFace) (t : CallerFace) : Type 0 where
  pub careful : IsCareful b t
  pub other : t.number ≡ 0 → ⊥

-- the same task, with more entries
pub record IsLonger (t u : CallerFace) : Type 0 where
  pub number : u.number ≡ t.number
  pub more : List Entry
  pub logged : u.log ≡ t.log ++ more

-- caller k read this pair, one number after the other, while it held the latch with other readers
pub record WasRead (k : ℕ) (log : List Entry) (pair : Pair) : Type 0 where
  pub before : List Entry
  pub first : Entry
  pub second : Entry
  pub later : List Entry
  pub split : log ≡ before ++ first ∷ second ∷ later
  pub holds : HoldsLatch 0 Shared k before
  pub left : Reads 0 pair.left first
  pub right : Reads 1 pair.right second

-- ---- the work of all

-- the board has the configuration for this many pairs and reads
pub record IsSharing (b : BoardFace) (pairs : List Pair) (reads : ℕ) : Type 0 where
  pub config : b.config ≡ cache_setup (length pairs) reads
  pub few_pairs : length pairs ≤ pairs_limit
  pub few_reads : reads ≤ reads_limit

-- the task of this number is back with this log: it has kept the rule and the lock discipline and released the latch, the writer wrote whole
-- pairs, and these pairs were read under the latch
pub record HasDone (pairs : List Pair) (k : ℕ) (log : List Entry) (got : List Pair) : Type 0 where
  pub allowed : Keeps IsAllowed k [] log
  pub discipline : HasLockDiscipline log
  pub bare : held log ≡ []
  pub whole : k ≡ 0 → StaysWhole pairs [] log
  pub read : AllByRecursion (WasRead k log) got
