-- The entry that a compact entry encodes: its kinds say which operation and which reply, and its numbers are theirs. A field
-- that a kind does not use is ignored.
use Rattle.std.specs.Prelude.{ℕ, true, false}
use Rattle.mv_ecb.specs.declared.operation.EcbOp.TheVariants as ecb_op
use Rattle.mv_ecb.specs.declared.operation.EcbReply.TheVariants as ecb_reply
use Rattle.mv_element.specs.declared.element.Phase.{Phase}
use Rattle.mv_element.specs.declared.operation.ElementOp.TheVariants as element_op
use Rattle.mv_element.specs.declared.operation.ElementReply.TheVariants as element_reply
use Rattle.mv_element.specs.Element.{in_phase}
use Rattle.mv_latch.specs.declared.operation.LatchOp.TheVariants as latch_op
use Rattle.mv_latch.specs.declared.operation.LatchReply.TheVariants as latch_reply
use Rattle.mv_latch.specs.declared.request.LatchForm.TheVariants.{Conditional, Waiting, Posted}
use Rattle.mv_latch.specs.declared.request.Mode.{Mode}
use Rattle.mv_machine.specs.declared.compact.CompactEntry.{CompactEntry}
use Rattle.mv_machine.specs.declared.compact.OpKind.TheVariants as op
use Rattle.mv_machine.specs.declared.compact.OpKind.{OpKind}
use Rattle.mv_machine.specs.declared.compact.OpParts.{OpParts}
use Rattle.mv_machine.specs.declared.compact.ReplyKind.TheVariants as reply
use Rattle.mv_machine.specs.declared.compact.ReplyKind.{ReplyKind}
use Rattle.mv_machine.specs.declared.compact.ReplyParts.{ReplyParts}
use Rattle.mv_machine.specs.declared.entry.Entry.{Entry}
use Rattle.mv_machine.specs.declared.entry.Op.{Op}
use Rattle.mv_machine.specs.declared.entry.Op.TheVariants as op_on
use Rattle.mv_machine.specs.declared.entry.Reply.{Reply}
use Rattle.mv_machine.specs.declared.entry.Reply.TheVariants as of
use Rattle.mv_machine.specs.declared.entry.VolumeOp.TheVariants as volume_op
use Rattle.mv_machine.specs.declared.entry.VolumeReply.TheVariants as volume_reply

-- the operation of a kind, with a mode, a requestor and two numbers
abbrev pub op_by : OpKind → Mode → ℕ → ℕ → ℕ → Op
op_by op.EcbArm mode r a b = op_on.Ecb ecb_op.Arm
op_by op.EcbExtend mode r a b = op_on.Ecb (ecb_op.Extend a)
op_by op.EcbSettle mode r a b = op_on.Ecb ecb_op.Settle
op_by op.EcbClear mode r a b = op_on.Ecb ecb_op.Clear
op_by op.EcbPost mode r a b = op_on.Ecb (ecb_op.Post a)
op_by op.EcbTest mode r a b = op_on.Ecb ecb_op.Test
op_by op.ElementOpen mode r a b = op_on.Element element_op.Open
op_by op.ElementPause mode r a b = op_on.Element (element_op.Pause a)
op_by op.ElementResume mode r a b = op_on.Element (element_op.Resume a)
op_by op.ElementRelease mode r a b = op_on.Element (element_op.Release a b)
op_by op.ElementClose mode r a b = op_on.Element (element_op.Close a)
op_by op.ElementTest mode r a b = op_on.Element element_op.Test
op_by op.VolumeRead mode r a b = op_on.Volume volume_op.Read
op_by op.VolumeWrite mode r a b = op_on.Volume (volume_op.Write a)
op_by op.LatchObtainConditional mode r a b = op_on.Latch (latch_op.Obtain a r mode Conditional)
op_by op.LatchObtainWaiting mode r a b = op_on.Latch (latch_op.Obtain a r mode Waiting)
op_by op.LatchObtainPosted mode r a b = op_on.Latch (latch_op.Obtain a r mode (Posted b))
op_by op.LatchConfirm mode r a b = op_on.Latch (latch_op.Confirm a b)
op_by op.LatchRelease mode r a b = op_on.Latch (latch_op.Release a b false)
op_by op.LatchReleaseConditional mode r a b = op_on.Latch (latch_op.Release a b true)
op_by op.LatchPurge mode r a b = op_on.Latch (latch_op.Purge r)

-- the operation that these parts encode
abbrev pub op_of : OpParts → Op
op_of p = op_by p.kind p.mode p.requestor p.first p.second

-- the reply of a kind, with a phase and two numbers
abbrev pub reply_by : ReplyKind → Phase → ℕ → ℕ → Reply
reply_by reply.EcbArmed phase a b = of.Ecb ecb_reply.Armed
reply_by reply.EcbLinked phase a b = of.Ecb (ecb_reply.Linked a)
reply_by reply.EcbComplete phase a b = of.Ecb (ecb_reply.Complete a)
reply_by reply.EcbWaiting phase a b = of.Ecb ecb_reply.Waiting
reply_by reply.EcbOpen phase a b = of.Ecb ecb_reply.Open
reply_by reply.EcbPosted phase a b = of.Ecb ecb_reply.Posted
reply_by reply.EcbWoke phase a b = of.Ecb (ecb_reply.Woke a)
reply_by reply.EcbAlready phase a b = of.Ecb (ecb_reply.Already a)
reply_by reply.EcbWord phase a b = of.Ecb (ecb_reply.Word a)
reply_by reply.ElementOpened phase a b = of.Element (element_reply.Opened a)
reply_by reply.ElementInUse phase a b = of.Element element_reply.InUse
reply_by reply.ElementParked phase a b = of.Element element_reply.Parked
reply_by reply.ElementGiven phase a b = of.Element (element_reply.Given a b)
reply_by reply.ElementSpent phase a b = of.Element (element_reply.Spent a)
reply_by reply.ElementBusy phase a b = of.Element element_reply.Busy
reply_by reply.ElementNotYet phase a b = of.Element element_reply.NotYet
reply_by reply.ElementEarly phase a b = of.Element element_reply.Early
reply_by reply.ElementWoke phase a b = of.Element element_reply.Woke
reply_by reply.ElementAlready phase a b = of.Element element_reply.Already
reply_by reply.ElementClosed phase a b = of.Element element_reply.Closed
reply_by reply.ElementState phase a b = of.Element (element_reply.State (in_phase phase a b))
reply_by reply.VolumeValue phase a b = of.Volume (volume_reply.Value a)
reply_by reply.VolumeStored phase a b = of.Volume volume_reply.Stored
reply_by reply.LatchGranted phase a b = of.Latch (latch_reply.Granted a)
reply_by reply.LatchQueued phase a b = of.Latch (latch_reply.Queued a)
reply_by reply.LatchNotNow phase a b = of.Latch (latch_reply.NotNow a)
reply_by reply.LatchWaiting phase a b = of.Latch latch_reply.Waiting
reply_by reply.LatchGone phase a b = of.Latch latch_reply.Gone
reply_by reply.LatchReleased phase a b = of.Latch (latch_reply.Released a)
reply_by reply.LatchPurged phase a b = of.Latch (latch_reply.Purged a b)

-- the reply that these parts encode
abbrev pub reply_of : ReplyParts → Reply
reply_of p = reply_by p.kind p.phase p.first p.second

-- the entry of a caller that a compact entry encodes
abbrev pub entry_of : ℕ → CompactEntry → Entry
entry_of caller p = record {
  caller = caller;
  object = p.object;
  place = p.place;
  op = op_by p.op p.mode p.requestor p.op_first p.op_second;
  reply = reply_by p.reply p.phase p.reply_first p.reply_second;
}
