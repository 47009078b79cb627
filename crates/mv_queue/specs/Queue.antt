-- What goes into a bounded queue and comes out of it, and what its tasks keep to, each by its own log.
use Rattle.std.specs.Prelude.{◌≡◌, ℕ, ◌+◌, ◌%◌, ◌==◌, ◌<◌, ◌≤◌, nat_lt, List, [], ◌∷◌, ◌++◌, ◌⊎◌, length, Option, Some, None}
use Rattle.std.specs.Prelude.{if◌then◌else◌}
use Rattle.std.specs.List.{filter_map}
use Rattle.mv_wait.specs.Prelude.latch_op.{Purge}
use Rattle.mv_wait.specs.Prelude.mode.{Exclusive}
use Rattle.mv_wait.specs.Prelude.{Entry, Object, Volume, Op, Reply, of, BoardFace, CallerFace}
use Rattle.mv_wait.specs.Prelude.op_on
use Rattle.mv_wait.specs.Prelude.reply_of
use Rattle.mv_wait.specs.Prelude.volume_op.{Read, Write}
use Rattle.mv_wait.specs.Prelude.volume_reply.{Value}
use Rattle.mv_latchset.specs.declared.token.LatchToken.{LatchToken}
use Rattle.mv_ordered.specs.Held.{held}
use Rattle.mv_ordered.specs.LatchOrder.{HasLockDiscipline}
use Rattle.mv_guarded.specs.Guarded.{HoldsLatch, Keeps, HasRead, IsCareful}
use Rattle.mv_queue.specs.Setup.{room, taken_count, put_count, tries_limit, queue_setup}

-- ---- what goes in and comes out

-- the volume that has the item of this number, the first item being item 0
abbrev pub slot : ℕ → ℕ
slot i = i % room

-- the number that an operation writes into a slot
abbrev pub put_by : Object → Op → Option ℕ
put_by (Volume n) (op_on.Volume (Write x)) = if nat_lt n room then Some x else None
put_by object op = None

-- the number that an operation with this reply reads from a slot
abbrev pub taken_by : Object → Op → Reply → Option ℕ
taken_by (Volume n) (op_on.Volume Read) (reply_of.Volume (Value x)) = if nat_lt n room then Some x else None
taken_by object op reply = None

-- the items that went into the queue by these entries, and those that came out of it, in order
abbrev pub went_in : List Entry → List ℕ
went_in es = filter_map (λ e. put_by e.object e.op) es

abbrev pub came_out : List Entry → List ℕ
came_out es = filter_map (λ e. taken_by e.object e.op e.reply) es

-- after these entries, these items are in the queue: what went in and has not come out, in order, and at most as many as there is room for
pub record HasInside (es : List Entry) : Type 0 where
  pub inside : List ℕ
  pub order : went_in es ≡ came_out es ++ inside
  pub few : length inside ≤ room

-- at each moment of a history what came out is what went in, in order, and at most as many items as there is room for are inside
abbrev pub IsQueue : List Entry → Type 0
IsQueue es = (before later : List Entry) → es ≡ before ++ later → HasInside before

-- these are the first of those
pub record AreFirst (xs ys : List ℕ) : Type 0 where
  pub rest : List ℕ
  pub whole : ys ≡ xs ++ rest

-- what the task of this number is to put in: each producer has a list, and the consumers have none
abbrev pub items_of : List ℕ → List ℕ → ℕ → List ℕ
items_of first second k = if k == 0 then first else if k == 1 then second else []

-- each producer put the first of its items in, in order, and no other task put any
abbrev pub AreTheirs : List ℕ → List ℕ → List Entry → Type 0
AreTheirs first second es = (k : ℕ) → k < 4 → AreFirst (went_in (of k es)) (items_of first second k)

-- ---- what each task keeps to

-- the number that an operation writes into volume n
abbrev pub count_by : ℕ → Object → Op → Option ℕ
count_by n (Volume m) (op_on.Volume (Write x)) = if m == n then Some x else None
count_by n object op = None

-- how often these entries write volume n
abbrev pub counted : ℕ → List Entry → ℕ
counted n es = length (filter_map (λ e. count_by n e.object e.op) es)

-- a task with this log has counted each item that it moved
abbrev pub IsEven : List Entry → Type 0
IsEven log = (length (went_in log) ≡ counted put_count log) × (length (came_out log) ≡ counted taken_count log)

-- it has counted each but the last, which it put in, or took out
abbrev pub OwesPut : List Entry → Type 0
OwesPut log = (length (went_in log) ≡ counted put_count log + 1) × (length (came_out log) ≡ counted taken_count log)

abbrev pub OwesTake : List Entry → Type 0
OwesTake log = (length (went_in log) ≡ counted put_count log) × (length (came_out log) ≡ counted taken_count log + 1)

-- caller k has read both counts under the latch, and still holds it
pub record HasSeen (k taken put : ℕ) (log : List Entry) : Type 0 where
  pub holds : HoldsLatch 0 Exclusive k log
  pub read_taken : HasRead 0 taken_count k taken log
  pub read_put : HasRead 0 put_count k put log

-- caller k puts an item in by a write of volume n: there is room, and it is the slot of the next item
pub record IsPut (k n : ℕ) (log : List Entry) : Type 0 where
  pub taken_is : ℕ
  pub put_is : ℕ
  pub seen : HasSeen k taken_is put_is log
  pub even : IsEven log
  pub free : put_is < taken_is + room
  pub here : n ≡ slot put_is

-- caller k takes an item out by a read of volume n: there is one, and it is the slot of the first
pub record IsTake (k n : ℕ) (log : List Entry) : Type 0 where
  pub taken_is : ℕ
  pub put_is : ℕ
  pub seen : HasSeen k taken_is put_is log
  pub even : IsEven log
  pub some : taken_is < put_is
  pub here : n ≡ slot taken_is

-- caller k counts the item that it has just moved: it writes one more than it read under the latch
pub record IsCount (k n x : ℕ) (log : List Entry) : Type 0 where
  pub holds : HoldsLatch 0 Exclusive k log
  pub old : ℕ
  pub read : HasRead 0 n k old log
  pub more : x ≡ old + 1
  pub owes : ((n ≡ put_count) × OwesPut log) ⊎ ((n ≡ taken_count) × OwesTake log)

-- the rule of all tasks: a task moves an item under the latch, and counts it before it does anything else; and it purges no requestor
abbrev pub IsAllowed : ℕ → List Entry → Object → Op → Type 0
IsAllowed k log object (op_on.Latch (Purge requestor)) = ⊥
IsAllowed k log (Volume n) (op_on.Volume (Write x)) = IsPut k n log ⊎ IsCount k n x log
IsAllowed k log (Volume n) (op_on.Volume Read) = IsTake k n log ⊎ ((room ≤ n) × IsEven log)
IsAllowed k log object op = IsEven log

-- a careful task of the queue that has no item to count
pub record IsReady (b : BoardFace) (t : CallerFace) : Type 0 where
  pub config : (tries : ℕ) × (b.config ≡ queue_setup tries)
  pub careful : IsCareful IsAllowed b t
  pub even : IsEven t.log

-- The same task is ready again after at most `most` events, by which it put these items in and took these out, and has these latches.
pub record Did (b : BoardFace) (most : ℕ) (put taken : List ℕ) (has : List (ℕ × ℕ)) (t u : CallerFace) : Type 0 where
  pub ready : IsReady b u
  pub number : u.number ≡ t.number
  pub left : t.left ≤ u.left + most
  pub put_in : went_in u.log ≡ went_in t.log ++ put
  pub taken_out : came_out u.log ≡ came_out t.log ++ taken
  pub latches : held u.log ≡ has

-- it has obtained the latch, with this token
pub record HasEntered (b : BoardFace) (token : LatchToken) (t u : CallerFace) : Type 0 where
  pub did : Did b 2 [] [] ((0, token.id) ∷ []) t u
  pub holds : HoldsLatch 0 Exclusive u.number u.log
  pub latch : token.latch ≡ 0

-- ---- the work of all

-- the board has the configuration for this many tries
pub record IsOpen (b : BoardFace) (tries : ℕ) : Type 0 where
  pub config : b.config ≡ queue_setup tries
  pub few : tries ≤ tries_limit

-- The task of this number is back with this log: it has kept the rule and the lock discipline, and released the latch. It put in the first of its
-- items, and brings what it took.
pub record HasDone (first second : List ℕ) (k : ℕ) (log : List Entry) (got : List ℕ) : Type 0 where
  pub allowed : Keeps IsAllowed k [] log
  pub discipline : HasLockDiscipline log
  pub bare : held log ≡ []
  pub put : AreFirst (went_in log) (items_of first second k)
  pub taken : got ≡ came_out log
