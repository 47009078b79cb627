-- What each task of a pool guarantees, whatever the others do: a block of an answer is posted only by a worker, and only with
-- that answer.
use Rattle.std.specs.Prelude.{◌≡◌, ℕ, ◌+◌, ◌<◌, ◌≤◌, List, length, slice_index}
use Rattle.std.specs.List.{AllByRecursion}
use Rattle.mv_wait.specs.Prelude.ecb_op.{Extend, Post}
use Rattle.mv_wait.specs.Prelude.{Entry, Object, Ecb, Op, BoardFace, CallerFace, IsOf, IsAtRest}
use Rattle.mv_wait.specs.Prelude.op_on
use Rattle.mv_attach.specs.Entries.{Finds, IsPosted}
use Rattle.mv_server.specs.Pool.{workers, requests_limit, weeks_limit, pool_setup, answer_at}

-- caller k may make this operation: a post of a block of an answer is a worker's and has that answer, and no block is extended
abbrev pub IsRight : List ℕ → ℕ → Object → Op → Type 0
IsRight requests k (Ecb n) (op_on.Ecb (Post code)) = workers ≤ n → (k < workers) × (code ≡ answer_at requests n)
IsRight requests k (Ecb n) (op_on.Ecb (Extend exit)) = ⊥
IsRight requests k object op = Unit {0}

-- caller k may make the operation of each of these entries
abbrev pub AreRight : List ℕ → ℕ → List Entry → Type 0
AreRight requests k es = AllByRecursion (λ e. IsRight requests k e.object e.op) es

-- ---- tasks between two calls

-- the board is that of a pool for these requests, whose number and values are within the limits
pub record IsAsked (b : BoardFace) (requests : List ℕ) : Type 0 where
  pub config : b.config ≡ pool_setup (length requests)
  pub few : length requests ≤ requests_limit
  pub small : AllByRecursion (λ weeks. weeks < weeks_limit) requests

-- a task of this board is at rest, and has made only entries that it may make
pub record CanServe (b : BoardFace) (requests : List ℕ) (t : CallerFace) : Type 0 where
  pub asked : IsAsked b requests
  pub task : IsOf b t
  pub rest : IsAtRest t.log
  pub right : AreRight requests t.number t.log

-- this is the task of this number, and it can serve
pub record IsBack (b : BoardFace) (requests : List ℕ) (k : ℕ) (t : CallerFace) : Type 0 where
  pub ready : CanServe b requests t
  pub number : t.number ≡ k

-- the same task can serve again, after at most `most` events
pub record StaysReady (b : BoardFace) (requests : List ℕ) (most : ℕ) (t u : CallerFace) : Type 0 where
  pub ready : CanServe b requests u
  pub number : u.number ≡ t.number
  pub left : t.left ≤ u.left + most

-- ---- answers

-- one of these entries is a worker's post that completed the block with this code
pub record IsWorkersPost (es : List Entry) (block code : ℕ) : Type 0 where
  pub posted : IsPosted es block code
  pub worker : posted.entry.caller < workers

-- ---- the work of all tasks

-- the task of this number is back, and if it is the server, it has found each answer
pub record HasDone (b : BoardFace) (requests : List ℕ) (k : ℕ) (t : CallerFace) (answers : List ℕ) : Type 0 where
  pub back : IsBack b requests k t
  pub count : k ≡ workers → length answers ≡ length requests
  pub finds : k ≡ workers → (r : ℕ) → r < length requests → Finds t.log (workers + r) (slice_index answers r)
