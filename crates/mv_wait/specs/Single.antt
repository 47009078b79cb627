-- The calls of one event, and the reasons for which they are refused.
use Rattle.std.specs.Prelude.{◌≡◌, ℕ, ◌/◌, ◌%◌, ◌^◌, Option, Some, None}
use Rattle.mv_ecb.specs.declared.operation.EcbOp.TheVariants.{Extend}
use Rattle.mv_ecb.specs.declared.operation.EcbReply.{EcbReply}
use Rattle.mv_ecb.specs.declared.operation.EcbReply.TheVariants as ecb_reply
use Rattle.mv_machine.specs.declared.entry.Object.TheVariants.{Ecb}
use Rattle.mv_machine.specs.declared.entry.Op.TheVariants as op_on
use Rattle.mv_machine.specs.declared.entry.Reply.TheVariants as reply_of
use Rattle.mv_config.specs.Setup.{Setup}
use Rattle.mv_board.specs.Faces.{CallerFace, Happened}
use Rattle.mv_calls.specs.Keeping.{kept_of}
use Rattle.mv_calls.specs.Waits.{extend_refusal}
use Rattle.mv_wait.specs.declared.single.ExtendRefusal.{ExtendRefusal}
use Rattle.mv_wait.specs.declared.single.ExtendRefusal.TheVariants as extend_refusal_of
use Rattle.mv_wait.specs.Answers.{extend_refused}

-- the reply to the event of an extend: the code with which the block is complete, if it is
abbrev pub extend_reply : Option ℕ → EcbReply
extend_reply None = ecb_reply.Armed
extend_reply (Some code) = ecb_reply.Complete code

-- the extend is refused for this reason, and the task made no event
abbrev pub IsExtendRefused : Setup → ℕ → ℕ → CallerFace → ExtendRefusal → CallerFace → Type 0
IsExtendRefused c e exit t why u = (extend_refusal c e exit (kept_of t.number t.log) ≡ Some (extend_refused why)) × (u ≡ t)

-- the reason for which an extend fails: the block was complete, as the reply to its event says, or the extend was refused without
-- an event
abbrev pub IsExtendCause : Setup → ℕ → ℕ → CallerFace → ExtendRefusal → CallerFace → Type 0
IsExtendCause c e exit t (extend_refusal_of.Complete code) u =
    (extend_refusal c e exit (kept_of t.number t.log) ≡ None)
    × Happened t (Ecb e) (op_on.Ecb (Extend exit)) (reply_of.Ecb (ecb_reply.Complete code)) u
IsExtendCause c e exit t why u = IsExtendRefused c e exit t why u

-- the wait bit of a block's word is off: no task waits, and no exit is to run
abbrev pub HasNoWaitBit : ℕ → Type 0
HasNoWaitBit w = w / 2 ^ 31 % 2 ≡ 0
