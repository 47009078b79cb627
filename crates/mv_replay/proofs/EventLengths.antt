-- How many bytes the words of an event have at most: for each kind of object its operations and its replies, and then all three
-- together.
use Rattle.std.proofs.Common.{ℕ, ◌+◌, ◌≤◌, Bool, true, false, List, ◌++◌, length, length-append, arith}
use Rattle.std.proofs.lemmas.Fmt.{length-decimal-le}
use Rattle.std.specs.Prelude.{codes, decimal}
use Rattle.mv_ecb.specs.declared.operation.EcbOp.{EcbOp}
use Rattle.mv_ecb.specs.declared.operation.EcbOp.TheVariants as ecb_op
use Rattle.mv_ecb.specs.declared.operation.EcbReply.{EcbReply}
use Rattle.mv_ecb.specs.declared.operation.EcbReply.TheVariants as ecb_reply
use Rattle.mv_element.specs.declared.element.Phase.{Phase}
use Rattle.mv_element.specs.declared.element.Phase.TheVariants.{Free, Reset, Prereleased, Paused, Released}
use Rattle.mv_element.specs.declared.operation.ElementOp.{ElementOp}
use Rattle.mv_element.specs.declared.operation.ElementOp.TheVariants as element_op
use Rattle.mv_element.specs.declared.operation.ElementReply.{ElementReply}
use Rattle.mv_element.specs.declared.operation.ElementReply.TheVariants as element_reply
use Rattle.mv_latch.specs.declared.request.Mode.{Mode}
use Rattle.mv_latch.specs.declared.request.Mode.TheVariants.{Shared, Exclusive}
use Rattle.mv_latch.specs.declared.request.LatchForm.{LatchForm}
use Rattle.mv_latch.specs.declared.request.LatchForm.TheVariants as form
use Rattle.mv_latch.specs.declared.operation.LatchOp.{LatchOp}
use Rattle.mv_latch.specs.declared.operation.LatchOp.TheVariants as latch_op
use Rattle.mv_latch.specs.declared.operation.LatchReply.{LatchReply}
use Rattle.mv_latch.specs.declared.operation.LatchReply.TheVariants as latch_reply
use Rattle.mv_machine.specs.declared.entry.Object.{Object}
use Rattle.mv_machine.specs.declared.entry.Object.TheVariants.{Ecb, Element, Volume, Latches}
use Rattle.mv_machine.specs.declared.entry.Op.{Op}
use Rattle.mv_machine.specs.declared.entry.Op.TheVariants as op_on
use Rattle.mv_machine.specs.declared.entry.Reply.{Reply}
use Rattle.mv_machine.specs.declared.entry.Reply.TheVariants as reply_of
use Rattle.mv_machine.specs.declared.entry.VolumeOp.{VolumeOp}
use Rattle.mv_machine.specs.declared.entry.VolumeOp.TheVariants as volume_op
use Rattle.mv_machine.specs.declared.entry.VolumeReply.{VolumeReply}
use Rattle.mv_machine.specs.declared.entry.VolumeReply.TheVariants as volume_reply
use Rattle.mv_config.specs.Limits.{highest_place}
use Rattle.mv_operationtext.specs.Ranges.{highest_u32, highest_u64, highest_release_code}
use Rattle.mv_operationtext.specs.EcbText.{ecb_op_text, ecb_reply_text, IsEcbOpInRange, IsEcbReplyInRange, IsEcbReplyTyped}
use Rattle.mv_operationtext.specs.ElementText.{phase_text, element_op_text, element_reply_text}
use Rattle.mv_operationtext.specs.ElementText.{IsElementOpInRange, IsElementOpTyped, IsElementReplyInRange}
use Rattle.mv_operationtext.specs.VolumeText.{volume_op_text, volume_reply_text, IsVolumeOpTyped, IsVolumeReplyTyped}
use Rattle.mv_operationtext.specs.LatchText.{mode_text, form_text, condition_text, latch_op_text, latch_reply_text}
use Rattle.mv_operationtext.specs.LatchText.{IsFormTyped, IsLatchOpTyped, IsLatchReplyTyped}
use Rattle.mv_operationtext.specs.EntryText.{object_text, op_text, reply_text, IsEventInRange, IsObjectTyped, IsOpTyped, IsReplyTyped}

-- ---- numbers

-- a place, or a generation that is told, has six digits at most
pub six_digits : (n : ℕ) → n ≤ highest_place → length (decimal n) ≤ 6
six_digits n le = length-decimal-le 6 n (omega arith) (omega arith) (omega arith)

-- a release code has eight
eight_digits : (n : ℕ) → n ≤ highest_release_code → length (decimal n) ≤ 8
eight_digits n le = length-decimal-le 8 n (omega arith) (omega arith) (omega arith)

-- a number of four bytes has ten
pub ten_digits : (n : ℕ) → n ≤ highest_u32 → length (decimal n) ≤ 10
ten_digits n le = length-decimal-le 10 n (omega arith) (omega arith) (omega arith)

-- one of eight bytes has twenty
twenty_digits : (n : ℕ) → n ≤ highest_u64 → length (decimal n) ≤ 20
twenty_digits n le = length-decimal-le 20 n (omega arith) (omega arith) (omega arith)

-- ---- event control blocks: the longest are EXTEND and COMPLETE

-- an operation on an event control block
ecb_op_short : (op : EcbOp) → IsEcbOpInRange op → length (ecb_op_text op) ≤ 17
ecb_op_short ecb_op.Arm h = omega arith
ecb_op_short (ecb_op.Extend exit) h = simp length-append (omega (arith, ten_digits exit (omega (arith, h.1))))
ecb_op_short ecb_op.Settle h = omega arith
ecb_op_short ecb_op.Clear h = omega arith
ecb_op_short (ecb_op.Post code) h = simp length-append (omega (arith, ten_digits code (omega arith)))
ecb_op_short ecb_op.Test h = omega arith

-- a reply of an event control block
ecb_reply_short : (r : EcbReply) → IsEcbReplyInRange r → IsEcbReplyTyped r → length (ecb_reply_text r) ≤ 19
ecb_reply_short ecb_reply.Armed h t = omega arith
ecb_reply_short (ecb_reply.Linked exit) h t = simp length-append (omega (arith, ten_digits exit (omega (arith, h.1))))
ecb_reply_short (ecb_reply.Complete code) h t = simp length-append (omega (arith, ten_digits code (omega arith)))
ecb_reply_short ecb_reply.Waiting h t = omega arith
ecb_reply_short ecb_reply.Open h t = omega arith
ecb_reply_short ecb_reply.Posted h t = omega arith
ecb_reply_short (ecb_reply.Woke exit) h t = simp length-append (omega (arith, ten_digits exit (omega arith)))
ecb_reply_short (ecb_reply.Already code) h t = simp length-append (omega (arith, ten_digits code (omega arith)))
ecb_reply_short (ecb_reply.Word word) h t = simp length-append (omega (arith, ten_digits word t))

-- ---- pause elements: RELEASE and STATE

-- an operation on a pause element
element_op_short : (op : ElementOp) → IsElementOpInRange op → IsElementOpTyped op → length (element_op_text op) ≤ 27
element_op_short element_op.Open h t = omega arith
element_op_short (element_op.Pause generation) h t = simp length-append (omega (arith, ten_digits generation t))
element_op_short (element_op.Resume generation) h t = simp length-append (omega (arith, ten_digits generation t))
element_op_short (element_op.Release generation code) h t = simp length-append (omega (arith, ten_digits generation t, eight_digits code h))
element_op_short (element_op.Close generation) h t = simp length-append (omega (arith, ten_digits generation t))
element_op_short element_op.Test h t = omega arith

-- the word of a phase
phase_short : (p : Phase) → length (phase_text p) ≤ 11
phase_short Free = omega arith
phase_short Reset = omega arith
phase_short Prereleased = omega arith
phase_short Paused = omega arith
phase_short Released = omega arith

-- a reply of a pause element
element_reply_short : (r : ElementReply) → IsElementReplyInRange r → length (element_reply_text r) ≤ 33
element_reply_short (element_reply.Opened generation) h = simp length-append (omega (arith, six_digits generation (omega arith)))
element_reply_short element_reply.InUse h = omega arith
element_reply_short element_reply.Parked h = omega arith
element_reply_short (element_reply.Given code next) h =
    simp length-append (omega (arith, eight_digits code h.0, six_digits next (omega (arith, h.1))))
element_reply_short (element_reply.Spent generation) h = simp length-append (omega (arith, six_digits generation (omega arith)))
element_reply_short element_reply.Busy h = omega arith
element_reply_short element_reply.NotYet h = omega arith
element_reply_short element_reply.Early h = omega arith
element_reply_short element_reply.Woke h = omega arith
element_reply_short element_reply.Already h = omega arith
element_reply_short element_reply.Closed h = omega arith
element_reply_short (element_reply.State s) h =
    simp length-append (omega (arith, six_digits s.generation (omega (arith, h.0)), phase_short s.phase, eight_digits s.code h.1))

-- ---- volumes: WRITE and VALUE

-- an operation on a volume
volume_op_short : (op : VolumeOp) → IsVolumeOpTyped op → length (volume_op_text op) ≤ 16
volume_op_short volume_op.Read t = omega arith
volume_op_short (volume_op.Write number) t = simp length-append (omega (arith, ten_digits number t))

-- a reply of a volume
volume_reply_short : (r : VolumeReply) → IsVolumeReplyTyped r → length (volume_reply_text r) ≤ 16
volume_reply_short (volume_reply.Value number) t = simp length-append (omega (arith, ten_digits number t))
volume_reply_short volume_reply.Stored t = omega arith

-- ---- the latch set: OBTAIN and PURGED

-- the letter of a mode
mode_short : (m : Mode) → length (mode_text m) ≤ 1
mode_short Shared = omega arith
mode_short Exclusive = omega arith

-- a form
form_short : (f : LatchForm) → IsFormTyped f → length (form_text f) ≤ 11
form_short form.Conditional t = omega arith
form_short form.Waiting t = omega arith
form_short (form.Posted ecb) t = simp length-append (omega (arith, ten_digits ecb t))

-- the letter of a condition
condition_short : (b : Bool) → length (condition_text b) ≤ 1
condition_short true = omega arith
condition_short false = omega arith

-- an operation on the latch set
latch_op_short : (op : LatchOp) → IsLatchOpTyped op → length (latch_op_text op) ≤ 52
latch_op_short (latch_op.Obtain latch requestor mode form) t =
    simp length-append (omega (arith, ten_digits latch t.0, twenty_digits requestor t.1, mode_short mode, form_short form t.2))
latch_op_short (latch_op.Confirm latch id) t = simp length-append (omega (arith, ten_digits latch t.0, ten_digits id t.1))
latch_op_short (latch_op.Release latch id conditional) t =
    simp length-append (omega (arith, ten_digits latch t.0, ten_digits id t.1, condition_short conditional))
latch_op_short (latch_op.Purge requestor) t = simp length-append (omega (arith, twenty_digits requestor t))

-- a reply of the latch set
latch_reply_short : (r : LatchReply) → IsLatchReplyTyped r → length (latch_reply_text r) ≤ 28
latch_reply_short (latch_reply.Granted id) t = simp length-append (omega (arith, ten_digits id t))
latch_reply_short (latch_reply.Queued id) t = simp length-append (omega (arith, ten_digits id t))
latch_reply_short (latch_reply.NotNow id) t = simp length-append (omega (arith, ten_digits id t))
latch_reply_short latch_reply.Waiting t = omega arith
latch_reply_short latch_reply.Gone t = omega arith
latch_reply_short (latch_reply.Released granted) t = simp length-append (omega (arith, ten_digits granted t))
latch_reply_short (latch_reply.Purged removed granted) t =
    simp length-append (omega (arith, ten_digits removed t.0, ten_digits granted t.1))

-- ---- an event

-- the word of an object with a number
numbered_short : (letter : List ℕ) (n : ℕ) → length letter ≤ 1 → n ≤ highest_u32 → length (letter ++ decimal n) ≤ 11
numbered_short letter n one le = simp length-append (omega (arith, one, ten_digits n le))

-- object, operation and reply: the most are those of the latch set
pub event_short : (o : Object) (op : Op) (r : Reply) → IsEventInRange o op r → IsObjectTyped o → IsOpTyped op → IsReplyTyped r
    → length (object_text o) + length (op_text op) + length (reply_text r) ≤ 81
event_short (Ecb n) (op_on.Ecb op) (reply_of.Ecb r) h o p t =
    omega (arith, numbered_short (codes "E") n (omega arith) o, ecb_op_short op h.0, ecb_reply_short r h.1 t)
event_short (Element n) (op_on.Element op) (reply_of.Element r) h o p t =
    omega (arith, numbered_short (codes "P") n (omega arith) o, element_op_short op h.0 p, element_reply_short r h.1)
event_short (Volume n) (op_on.Volume op) (reply_of.Volume r) h o p t =
    omega (arith, numbered_short (codes "V") n (omega arith) o, volume_op_short op p, volume_reply_short r t)
event_short Latches (op_on.Latch op) (reply_of.Latch r) h o p t = omega (arith, latch_op_short op p, latch_reply_short r t)
event_short o op r h n p t = absurd h
