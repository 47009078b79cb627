-- What the numbers of a reply mean, by the kind of its object: specs/Answer the other way round.
use Rattle.std.specs.Prelude.{ℕ, ◌==◌, ◌||◌, Option, Some, None, option_map, if◌then◌else◌}
use Rattle.mv_ecb.specs.declared.operation.EcbReply.{EcbReply}
use Rattle.mv_ecb.specs.declared.operation.EcbReply.TheVariants as ecb
use Rattle.mv_element.specs.Code.{keeps_code}
use Rattle.mv_element.specs.Element.{in_phase}
use Rattle.mv_element.specs.declared.element.ElementState.{ElementState}
use Rattle.mv_element.specs.declared.element.Phase.{Phase}
use Rattle.mv_element.specs.declared.element.Phase.TheVariants as phase
use Rattle.mv_element.specs.declared.operation.ElementReply.{ElementReply}
use Rattle.mv_element.specs.declared.operation.ElementReply.TheVariants as element
use Rattle.mv_latch.specs.declared.operation.LatchReply.{LatchReply}
use Rattle.mv_latch.specs.declared.operation.LatchReply.TheVariants as latch
use Rattle.mv_machine.specs.declared.entry.Object.{Object}
use Rattle.mv_machine.specs.declared.entry.Object.TheVariants as object
use Rattle.mv_machine.specs.declared.entry.Reply.{Reply}
use Rattle.mv_machine.specs.declared.entry.Reply.TheVariants.{Ecb, Element, Volume, Latch}
use Rattle.mv_machine.specs.declared.entry.VolumeReply.{VolumeReply}
use Rattle.mv_machine.specs.declared.entry.VolumeReply.TheVariants.{Value, Stored}
use Rattle.mv_oracle.specs.declared.answer.Answer.{Answer}

abbrev pub ecb_reply_of : Answer → Option EcbReply
ecb_reply_of x =
    if x.reply == 0 then Some ecb.Armed else if x.reply == 1 then Some (ecb.Linked x.a)
    else if x.reply == 2 then Some (ecb.Complete x.a) else if x.reply == 3 then Some ecb.Waiting
    else if x.reply == 4 then Some ecb.Open else if x.reply == 5 then Some ecb.Posted
    else if x.reply == 6 then Some (ecb.Woke x.a) else if x.reply == 7 then Some (ecb.Already x.a)
    else if x.reply == 8 then Some (ecb.Word x.a) else None

abbrev pub phase_of : ℕ → Option Phase
phase_of n =
    if n == 0 then Some phase.Free else if n == 1 then Some phase.Reset else if n == 2 then Some phase.Prereleased
    else if n == 3 then Some phase.Paused else if n == 4 then Some phase.Released else None

-- the state of this generation in a phase, with a code other than 0 only if the phase keeps one
abbrev pub state_of : (generation : ℕ) → Option Phase → (code : ℕ) → Option ElementState
state_of generation (Some p) code = if keeps_code p || code == 0 then Some (in_phase p generation code) else None
state_of generation None code = None

abbrev pub element_reply_of : Answer → Option ElementReply
element_reply_of x =
    if x.reply == 0 then Some (element.Opened x.a) else if x.reply == 1 then Some element.InUse
    else if x.reply == 2 then Some element.Parked else if x.reply == 3 then Some (element.Given x.a x.b)
    else if x.reply == 4 then Some (element.Spent x.a) else if x.reply == 5 then Some element.Busy
    else if x.reply == 6 then Some element.NotYet else if x.reply == 7 then Some element.Early
    else if x.reply == 8 then Some element.Woke else if x.reply == 9 then Some element.Already
    else if x.reply == 10 then Some element.Closed
    else if x.reply == 11 then option_map (λ s. element.State s) (state_of x.a (phase_of x.b) x.c) else None

abbrev pub volume_reply_of : Answer → Option VolumeReply
volume_reply_of x = if x.reply == 0 then Some (Value x.a) else if x.reply == 1 then Some Stored else None

abbrev pub latch_reply_of : Answer → Option LatchReply
latch_reply_of x =
    if x.reply == 0 then Some (latch.Granted x.a) else if x.reply == 1 then Some (latch.Queued x.a)
    else if x.reply == 2 then Some (latch.NotNow x.a) else if x.reply == 3 then Some latch.Waiting
    else if x.reply == 4 then Some latch.Gone else if x.reply == 5 then Some (latch.Released x.a)
    else if x.reply == 6 then Some (latch.Purged x.a x.b) else None

-- the reply of an object of this kind
abbrev pub reply_of : Object → Answer → Option Reply
reply_of (object.Ecb n) x = option_map (λ r. Ecb r) (ecb_reply_of x)
reply_of (object.Element n) x = option_map (λ r. Element r) (element_reply_of x)
reply_of (object.Volume n) x = option_map (λ r. Volume r) (volume_reply_of x)
reply_of object.Latches x = option_map (λ r. Latch r) (latch_reply_of x)
