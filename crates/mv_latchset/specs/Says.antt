-- Predicates on replies: which kind of answer a reply gives.
use Rattle.std.specs.Prelude.{◌≡◌, true, false}
use Rattle.mv_latch.specs.declared.operation.LatchReply.TheVariants as latch_reply
use Rattle.mv_latch.specs.declared.request.LatchForm.{LatchForm}
use Rattle.mv_latch.specs.Request.{queues}
use Rattle.mv_machine.specs.declared.entry.Reply.{Reply}
use Rattle.mv_machine.specs.declared.entry.Reply.TheVariants as reply_of

-- the reply to Obtain: the request is granted, or if it is not, it is queued or dropped as its form says
abbrev pub SaysAsked : LatchForm → Reply → Type 0
SaysAsked form (reply_of.Latch (latch_reply.Granted id)) = Unit {0}
SaysAsked form (reply_of.Latch (latch_reply.Queued id)) = queues form ≡ true
SaysAsked form (reply_of.Latch (latch_reply.NotNow id)) = queues form ≡ false
SaysAsked form reply = ⊥

-- the reply to Confirm: the request is granted, waits, or is gone
abbrev pub SaysStanding : Reply → Type 0
SaysStanding (reply_of.Latch (latch_reply.Granted id)) = Unit {0}
SaysStanding (reply_of.Latch latch_reply.Waiting) = Unit {0}
SaysStanding (reply_of.Latch latch_reply.Gone) = Unit {0}
SaysStanding reply = ⊥

-- the reply to Release: the request is released, or is gone, or still waits
abbrev pub SaysReleased : Reply → Type 0
SaysReleased (reply_of.Latch (latch_reply.Released granted)) = Unit {0}
SaysReleased (reply_of.Latch latch_reply.Gone) = Unit {0}
SaysReleased (reply_of.Latch latch_reply.Waiting) = Unit {0}
SaysReleased reply = ⊥

-- the reply to Purge: the requestor is purged
abbrev pub SaysPurged : Reply → Type 0
SaysPurged (reply_of.Latch (latch_reply.Purged removed granted)) = Unit {0}
SaysPurged reply = ⊥
