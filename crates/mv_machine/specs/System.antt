-- The machine: each object has a place, which is the number of its events, and a state.
use Rattle.std.specs.Prelude.{ℕ, ◌+◌, ◌==◌, ◌^◌, nat_lt, Bool, true, false, ◌&&◌, List, [], length, Option, Some, None, option_map}
use Rattle.std.specs.Prelude.{if◌then◌else◌, replicate}
use Rattle.mv_ecb.specs.declared.operation.EcbOp.{EcbOp}
use Rattle.mv_ecb.specs.declared.operation.EcbOp.TheVariants as ecb_op
use Rattle.mv_ecb.specs.Table.{code_limit, ecb_step}
use Rattle.mv_ecb.specs.Word.{EcbState, Zero}
use Rattle.mv_element.specs.declared.operation.ElementOp.{ElementOp}
use Rattle.mv_element.specs.declared.operation.ElementOp.TheVariants as element_op
use Rattle.mv_element.specs.declared.element.ElementState.{ElementState}
use Rattle.mv_element.specs.Element.{free}
use Rattle.mv_element.specs.Table.{release_limit, element_step}
use Rattle.mv_latch.specs.declared.operation.LatchOp.{LatchOp}
use Rattle.mv_latch.specs.declared.operation.LatchOp.TheVariants.{Obtain, Confirm, Release, Purge}
use Rattle.mv_latch.specs.declared.request.LatchForm.{LatchForm}
use Rattle.mv_latch.specs.declared.request.LatchForm.TheVariants.{Conditional, Waiting, Posted}
use Rattle.mv_latch.specs.declared.request.Request.{Request}
use Rattle.mv_latch.specs.declared.operation.Wake.{Wake}
use Rattle.mv_latch.specs.LatchSet.{LatchLists, latch_admitted, latch_step, wakes}
use Rattle.mv_machine.specs.declared.entry.Object.{Object}
use Rattle.mv_machine.specs.declared.entry.Object.TheVariants.{Ecb, Element, Volume, Latches}
use Rattle.mv_machine.specs.declared.entry.Op.{Op}
use Rattle.mv_machine.specs.declared.entry.Op.TheVariants as op_on
use Rattle.mv_machine.specs.declared.entry.Reply.{Reply}
use Rattle.mv_machine.specs.declared.entry.Reply.TheVariants as reply_of
use Rattle.mv_machine.specs.declared.entry.VolumeOp.{VolumeOp}
use Rattle.mv_machine.specs.declared.entry.VolumeOp.TheVariants.{Read, Write}
use Rattle.mv_machine.specs.declared.entry.VolumeReply.{VolumeReply}
use Rattle.mv_machine.specs.declared.entry.VolumeReply.TheVariants.{Value, Stored}
use Rattle.mv_config.specs.Setup.{Setup, owner_of, element_count, element_owner, is_exit_of}

-- an object's place and state
pub record Cell (A : Type 0) : Type 0 where
  pub place : ℕ
  pub state : A

-- the machine: the state of each object, and how many events it has had. `admitted` excludes the numbers that no object has
pub record System : Type 0 where
  pub ecb : ℕ → Cell EcbState
  pub element : ℕ → Cell ElementState
  pub volume : ℕ → Cell ℕ
  pub latches : Cell (List (List Request))

-- the machine before the first event
abbrev pub opening : Setup → System
opening c = record {
  ecb = λ n. record { place = 0; state = Zero };
  element = λ n. record { place = 0; state = free 0 };
  volume = λ n. record { place = 0; state = 0 };
  latches = record { place = 0; state = replicate c.latches [] };
}

-- an operation on a volume: a read keeps the number and replies with it; a write sets it
abbrev pub volume_step : VolumeOp → ℕ → ℕ × VolumeReply
volume_step Read n = (n, Value n)
volume_step (Write m) n = (m, Stored)

-- how many events an object has had
abbrev pub place_of : System → Object → ℕ
place_of s (Ecb n) = (s.ecb n).place
place_of s (Element n) = (s.element n).place
place_of s (Volume n) = (s.volume n).place
place_of s Latches = s.latches.place

-- which operations a caller may make on a block: any caller may post it and read it; only its owner may arm, extend, settle and
-- clear it
abbrev pub ecb_admitted : Setup → ℕ → ℕ → EcbOp → Bool
ecb_admitted c k n (ecb_op.Post d) = nat_lt d code_limit
ecb_admitted c k n ecb_op.Test = true
ecb_admitted c k n (ecb_op.Extend x) = (owner_of c n == k) && (nat_lt x code_limit && is_exit_of c x n)
ecb_admitted c k n _ = owner_of c n == k

-- which operations a caller may make on an element: any caller may release it and read it; only its owner may open it, pause
-- with it, resume and close it
abbrev pub element_admitted : Setup → ℕ → ℕ → ElementOp → Bool
element_admitted c k n (element_op.Release g d) = nat_lt d release_limit
element_admitted c k n element_op.Test = true
element_admitted c k n _ = element_owner c n == k

-- which operations may be made on a volume: a number that is written has 32 bits
abbrev pub volume_admitted : VolumeOp → Bool
volume_admitted Read = true
volume_admitted (Write m) = nat_lt m (2 ^ 32)

-- the latch set with these lists and the configuration's quotas
abbrev pub latches_of : Setup → List (List Request) → LatchLists
latches_of c lists = record { lists = lists; callers = c.callers; quota = c.quota; posted = c.posted_quota }

-- whether a form that names a block, Posted, names one that exists and is the caller's
abbrev pub names_own_ecb : Setup → ℕ → LatchForm → Bool
names_own_ecb c k Conditional = true
names_own_ecb c k Waiting = true
names_own_ecb c k (Posted e) = nat_lt e (length c.owners) && (owner_of c e == k)

-- whether an operation that names a block, an obtain of the Posted form, names one that exists and is the caller's
abbrev pub posts_own_ecb : Setup → ℕ → LatchOp → Bool
posts_own_ecb c k (Obtain latch requestor mode form) = names_own_ecb c k form
posts_own_ecb c k (Confirm latch id) = true
posts_own_ecb c k (Release latch id conditional) = true
posts_own_ecb c k (Purge requestor) = true

-- whether an operation of a caller on an object is admitted: both exist, it is of the object's kind, and the caller may make it
abbrev pub admitted : Setup → System → ℕ → Object → Op → Bool
admitted c s k (Ecb n) (op_on.Ecb op) = nat_lt k c.callers && nat_lt n (length c.owners) && ecb_admitted c k n op
admitted c s k (Element n) (op_on.Element op) = nat_lt k c.callers && nat_lt n (element_count c) && element_admitted c k n op
admitted c s k (Volume n) (op_on.Volume op) = nat_lt k c.callers && nat_lt n c.volumes && volume_admitted op
admitted c s k Latches (op_on.Latch op) =
    nat_lt k c.callers && posts_own_ecb c k op && latch_admitted k op (latches_of c s.latches.state)
admitted c s k _ _ = false

-- a table with one value changed
abbrev pub with_at : {A : Type 0} → (ℕ → A) → ℕ → A → ℕ → A
with_at f n a k = if k == n then a else f k

-- the cell of an object after one more event
abbrev pub advanced : {A : Type 0} → Cell A → A → Cell A
advanced cell a = record { place = cell.place + 1; state = a }

-- the reply to an operation of the object's kind
abbrev pub reply_to : System → ℕ → Object → Op → Option Reply
reply_to s k (Ecb n) (op_on.Ecb op) = Some (reply_of.Ecb (ecb_step op (s.ecb n).state).1)
reply_to s k (Element n) (op_on.Element op) = Some (reply_of.Element (element_step op (s.element n).state).1)
reply_to s k (Volume n) (op_on.Volume op) = Some (reply_of.Volume (volume_step op (s.volume n).state).1)
reply_to s k Latches (op_on.Latch op) = Some (reply_of.Latch (latch_step k s.latches.place op s.latches.state).1)
reply_to s k _ _ = None

-- the machine after an operation of the object's kind: the object gets its new state, and nothing else changes. The request of
-- an obtain has the place as its number
abbrev pub moved : System → ℕ → Object → Op → System
moved s k (Ecb n) (op_on.Ecb op) =
    record s { ecb = with_at s.ecb n (advanced (s.ecb n) (ecb_step op (s.ecb n).state).0) }
moved s k (Element n) (op_on.Element op) =
    record s { element = with_at s.element n (advanced (s.element n) (element_step op (s.element n).state).0) }
moved s k (Volume n) (op_on.Volume op) =
    record s { volume = with_at s.volume n (advanced (s.volume n) (volume_step op (s.volume n).state).0) }
moved s k Latches (op_on.Latch op) =
    record s { latches = advanced s.latches (latch_step k s.latches.place op s.latches.state).0 }
moved s k _ _ = s

-- the answer of the machine: the place and the reply, if the operation is admitted
abbrev pub answer : Setup → System → ℕ → Object → Op → Option (ℕ × Reply)
answer c s k o op = if admitted c s k o op then option_map (λ r. (place_of s o, r)) (reply_to s k o op) else None

-- the machine after an operation: nothing changes if it is not admitted
abbrev pub after_step : Setup → System → ℕ → Object → Op → System
after_step c s k o op = if admitted c s k o op then moved s k o op else s

-- the wakes that are shown after an operation: those of the last admitted operation on the latch set
abbrev pub wakes_after : Setup → System → List Wake → ℕ → Object → Op → List Wake
wakes_after c s shown k Latches (op_on.Latch op) = if admitted c s k Latches (op_on.Latch op) then wakes k op s.latches.state else shown
wakes_after c s shown k _ _ = shown
