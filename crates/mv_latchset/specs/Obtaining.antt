-- The outcome of an obtain, event by event.
use Rattle.std.specs.Prelude.{◌≡◌, ℕ, Bool, true, false, [], ◌⊎◌, Some, None}
use Rattle.mv_latch.specs.declared.operation.LatchOp.{LatchOp}
use Rattle.mv_latch.specs.declared.operation.LatchOp.TheVariants as latch_op
use Rattle.mv_latch.specs.declared.operation.LatchReply.{LatchReply}
use Rattle.mv_latch.specs.declared.operation.LatchReply.TheVariants as latch_reply
use Rattle.mv_latch.specs.declared.request.LatchForm.{LatchForm}
use Rattle.mv_latch.specs.declared.request.LatchForm.TheVariants as form_of
use Rattle.mv_latch.specs.declared.request.Mode.{Mode}
use Rattle.mv_machine.specs.declared.entry.Object.TheVariants.{Latches}
use Rattle.mv_machine.specs.declared.entry.Op.TheVariants as op_on
use Rattle.mv_machine.specs.declared.entry.Reply.TheVariants as reply_of
use Rattle.mv_config.specs.Setup.{Setup}
use Rattle.mv_board.specs.Faces.{CallerFace, Happened}
use Rattle.mv_calls.specs.Keeping.{kept_of}
use Rattle.mv_calls.specs.LatchCalls.{obtain_refusal}
use Rattle.mv_wait.specs.Run.{Went}
use Rattle.mv_latchset.specs.declared.obtaining.ObtainRefusal.{ObtainRefusal}
use Rattle.mv_latchset.specs.declared.obtaining.ObtainRefusal.TheVariants as refused
use Rattle.mv_latchset.specs.declared.obtaining.Obtained.{Obtained}
use Rattle.mv_latchset.specs.declared.obtaining.Obtained.TheVariants as obtained
use Rattle.mv_latchset.specs.Answers.{obtain_refused}
use Rattle.mv_latchset.specs.Replies.{IsPosted}

-- the task made one event on the latch set, with this reply
abbrev pub IsAnswered : LatchOp → LatchReply → CallerFace → CallerFace → Type 0
IsAnswered op reply t u = Happened t Latches (op_on.Latch op) (reply_of.Latch reply) u

-- the reply to the Confirm of a request that no longer waits: granted or gone
abbrev pub settled_reply : ℕ → Bool → LatchReply
settled_reply id true = latch_reply.Granted id
settled_reply id false = latch_reply.Gone

-- the task waited without an event, and then its Confirm found the request granted, or gone
pub record IsRequestSettled (latch id : ℕ) (t : CallerFace) (granted : Bool) (u : CallerFace) : Type 0 where
  pub awaited : CallerFace
  pub waited : Went [] t awaited
  pub confirmed : IsAnswered (latch_op.Confirm latch id) (settled_reply id granted) awaited u

-- the request was queued, and after that found granted or gone
pub record IsQueuedAndSettled (op : LatchOp) (latch id : ℕ) (t : CallerFace) (granted : Bool) (u : CallerFace) : Type 0 where
  pub waiting : CallerFace
  pub queued : IsAnswered op (latch_reply.Queued id) t waiting
  pub settled : IsRequestSettled latch id waiting granted u

-- the event of an obtain that succeeds: Granted is the reply to the Obtain itself, or in the Waiting form that to its Confirm;
-- Pending is the reply Queued in the Posted form
abbrev pub IsObtainedBy : LatchOp → ℕ → LatchForm → CallerFace → Obtained → CallerFace → Type 0
IsObtainedBy op latch form t (obtained.Granted token) u =
    IsAnswered op (latch_reply.Granted token.id) t u
    ⊎ ((form ≡ form_of.Waiting) × IsQueuedAndSettled op latch token.id t true u)
IsObtainedBy op latch form t (obtained.Pending token) u = IsPosted form × IsAnswered op (latch_reply.Queued token.id) t u

-- the obtain is refused without an event
abbrev pub IsObtainRefused : Setup → ℕ → ℕ → Mode → LatchForm → CallerFace → ObtainRefusal → CallerFace → Type 0
IsObtainRefused c latch requestor mode form t why u =
    (obtain_refusal c latch requestor mode form (kept_of t.number t.log) ≡ Some (obtain_refused why)) × (u ≡ t)

-- the reason for which an obtain was refused: without an event, by the reply to its Obtain, or because its Confirm found the
-- request gone
abbrev pub IsRefusedBy : Setup → ℕ → ℕ → Mode → LatchForm → CallerFace → ObtainRefusal → CallerFace → Type 0
IsRefusedBy c latch requestor mode form t (refused.NotNow id) u =
    (obtain_refusal c latch requestor mode form (kept_of t.number t.log) ≡ None) × (form ≡ form_of.Conditional)
    × IsAnswered (latch_op.Obtain latch requestor mode form) (latch_reply.NotNow id) t u
IsRefusedBy c latch requestor mode form t refused.Purged u =
    (obtain_refusal c latch requestor mode form (kept_of t.number t.log) ≡ None) × (form ≡ form_of.Waiting)
    × ((id : ℕ) × IsQueuedAndSettled (latch_op.Obtain latch requestor mode form) latch id t false u)
IsRefusedBy c latch requestor mode form t refused.BadLatch u = IsObtainRefused c latch requestor mode form t refused.BadLatch u
IsRefusedBy c latch requestor mode form t refused.NotOwner u = IsObtainRefused c latch requestor mode form t refused.NotOwner u
IsRefusedBy c latch requestor mode form t refused.Quota u = IsObtainRefused c latch requestor mode form t refused.Quota u

-- the token is of this latch
abbrev pub IsOfLatch : ℕ → Obtained → Type 0
IsOfLatch latch (obtained.Granted token) = token.latch ≡ latch
IsOfLatch latch (obtained.Pending token) = token.latch ≡ latch
