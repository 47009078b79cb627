-- State under a latch: what a caller holds, keeps to and has read by its own log, and what a volume has.
use Rattle.std.specs.Prelude.{◌≡◌, ℕ, ◌==◌, ◌<◌, Bool, true, List, [], ◌∷◌, ◌++◌, length, if◌then◌else◌}
use Rattle.std.specs.List.{AllByRecursion}
use Rattle.mv_latch.specs.declared.operation.LatchOp.TheVariants.{Obtain, Release, Purge}
use Rattle.mv_latch.specs.declared.request.Mode.{Mode}
use Rattle.mv_latch.specs.declared.request.Mode.TheVariants.{Exclusive}
use Rattle.mv_machine.specs.declared.entry.Entry.{Entry}
use Rattle.mv_machine.specs.declared.entry.Object.{Object}
use Rattle.mv_machine.specs.declared.entry.Object.TheVariants.{Volume}
use Rattle.mv_machine.specs.declared.entry.Op.{Op}
use Rattle.mv_machine.specs.declared.entry.Op.TheVariants as op_on
use Rattle.mv_machine.specs.declared.entry.Reply.TheVariants as reply_of
use Rattle.mv_machine.specs.declared.entry.VolumeOp.TheVariants.{Read, Write}
use Rattle.mv_machine.specs.declared.entry.VolumeReply.TheVariants.{Value}
use Rattle.mv_machine.specs.Kept.{StandingRequest}
use Rattle.mv_machine.specs.Legal.{Legal, after, of}
use Rattle.mv_config.specs.Setup.{Setup}
use Rattle.mv_board.specs.Faces.{BoardFace, CallerFace, IsOf}
use Rattle.mv_calls.specs.Rest.{IsAtRest}
use Rattle.mv_calls.specs.Sections.{HasGrant, is_write}
use Rattle.mv_ordered.specs.Held.{held}
use Rattle.mv_ordered.specs.LatchOrder.{HasLockDiscipline}
use Rattle.mv_ordered.specs.WaitChain.{WaitsAt, SomeoneContinues}

-- ---- what a caller holds

-- by its own entries caller k holds this latch, by a request of this mode
pub record HoldsLatch (latch : ℕ) (asked : Mode) (k : ℕ) (log : List Entry) : Type 0 where
  pub request : StandingRequest
  pub here : request.latch ≡ latch
  pub mode : request.request.mode ≡ asked
  pub mine : request.request.caller ≡ k
  pub granted : HasGrant request log

-- an operation that does not release this latch
abbrev pub KeepsLatch : ℕ → Op → Type 0
KeepsLatch latch (op_on.Latch (Release l id conditional)) = l ≡ latch → ⊥
KeepsLatch latch op = Unit {0}

-- entries of a caller during which a section of this latch goes on: none of them releases the latch
abbrev pub AreInside : ℕ → List Entry → Type 0
AreInside latch es = AllByRecursion (λ e. KeepsLatch latch e.op) es

-- after these entries no caller has a request at a latch, by its own entries
abbrev pub AllReleased : Setup → List Entry → Type 0
AllReleased c es = (k : ℕ) → k < c.callers → held (of k es) ≡ []

-- no entry of a caller is among these
abbrev pub has_finished : List Entry → ℕ → Bool
has_finished later k = length (of k later) == 0

-- at each moment at which a caller waits at a latch, a caller whose last entry is still to come can continue
abbrev pub UnfinishedContinue : Setup → List Entry → Type 0
UnfinishedContinue c es = (before later : List Entry) (k latch : ℕ) → es ≡ before ++ later → WaitsAt c before k latch
    → SomeoneContinues c before (has_finished later)

-- ---- rules on a caller's log

-- Each of these entries is what a rule lets caller k do after its entries before that one. A rule speaks of a caller, its entries so far, an
-- object and an operation.
abbrev pub Keeps : (ℕ → List Entry → Object → Op → Type 0) → ℕ → List Entry → List Entry → Type 0
Keeps rule k before [] = Unit {0}
Keeps rule k before (e ∷ es) = rule k before e.object e.op × Keeps rule k (before ++ e ∷ []) es

-- a task of this board that is at rest, and has kept a rule and the lock discipline
pub record IsCareful (rule : ℕ → List Entry → Object → Op → Type 0) (b : BoardFace) (t : CallerFace) : Type 0 where
  pub task : IsOf b t
  pub rest : IsAtRest t.log
  pub allowed : Keeps rule t.number [] t.log
  pub discipline : HasLockDiscipline t.log

-- the rule of a caller that guards volume n by a latch: it purges no requestor, and writes the volume only while it holds the latch alone
abbrev pub IsGuarding : ℕ → ℕ → ℕ → List Entry → Object → Op → Type 0
IsGuarding latch n k log object (op_on.Latch (Purge requestor)) = ⊥
IsGuarding latch n k log object (op_on.Volume (Write x)) = object ≡ Volume n → HoldsLatch latch Exclusive k log
IsGuarding latch n k log object op = Unit {0}

-- a legal history in which each caller keeps that rule
pub record GuardsVolume (c : Setup) (es : List Entry) (latch n : ℕ) : Type 0 where
  pub legal : Legal c es
  pub guards : (k : ℕ) → k < c.callers → Keeps (IsGuarding latch n) k [] (of k es)

-- ---- what a volume has

-- the number that volume n has after these entries
abbrev pub value : Setup → List Entry → ℕ → ℕ
value c es n = ((after c es).volume n).state

-- the number that volume n has after an operation on an object
abbrev pub value_with : ℕ → ℕ → Object → Op → ℕ
value_with n x (Volume m) (op_on.Volume (Write y)) = if m == n then y else x
value_with n x object op = x

-- and after a list of entries
abbrev pub value_from : ℕ → ℕ → List Entry → ℕ
value_from n x [] = x
value_from n x (e ∷ es) = value_from n (value_with n x e.object e.op) es

-- none of these entries writes volume n
abbrev pub IsUnwritten : ℕ → List Entry → Type 0
IsUnwritten n es = AllByRecursion (λ e. e.object ≡ Volume n → is_write e.op ≡ true → ⊥) es

-- each write of volume n in these entries is caller w's
abbrev pub IsOnlyWriter : ℕ → ℕ → List Entry → Type 0
IsOnlyWriter w n es = AllByRecursion (λ e. e.object ≡ Volume n → is_write e.op ≡ true → e.caller ≡ w) es

-- ---- what a caller has read

-- an entry that reads this number from volume n
pub record Reads (n x : ℕ) (e : Entry) : Type 0 where
  pub object : e.object ≡ Volume n
  pub op : e.op ≡ op_on.Volume Read
  pub reply : e.reply ≡ reply_of.Volume (Value x)

-- Caller k read this number from volume n while it held the latch, in either mode. Since then it has neither released the latch nor written
-- the volume.
pub record HasRead (latch n k x : ℕ) (log : List Entry) : Type 0 where
  pub before : List Entry
  pub entry : Entry
  pub since : List Entry
  pub split : log ≡ before ++ entry ∷ since
  pub asked : Mode
  pub holds : HoldsLatch latch asked k before
  pub reads : Reads n x entry
  pub inside : AreInside latch since
  pub unwritten : IsUnwritten n since

-- ---- exclusive latches

-- an operation that obtains a latch does so exclusively
abbrev pub TakesAlone : Object → Op → Type 0
TakesAlone object (op_on.Latch (Obtain latch requestor mode form)) = mode ≡ Exclusive
TakesAlone object op = Unit {0}

-- and so each of these entries
abbrev pub AreAlone : List Entry → Type 0
AreAlone es = AllByRecursion (λ e. TakesAlone e.object e.op) es
