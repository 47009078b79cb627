-- The numbers of an answer mean its reply again, and those of a step the machine's next entry.
use Rattle.std.proofs.Common.{◌≡◌, ℕ, Bool, true, false, Option, Some, None, option_map, option_and_then, refl, sym, ap, ◌∙◌, subst}
use Rattle.std.specs.Prelude.{if◌then◌else◌}
use Rattle.mv_ecb.specs.declared.operation.EcbReply.{EcbReply}
use Rattle.mv_ecb.specs.declared.operation.EcbReply.TheVariants as ecb
use Rattle.mv_element.specs.Element.{in_phase}
use Rattle.mv_element.specs.declared.element.ElementState.{ElementState}
use Rattle.mv_element.specs.declared.element.Phase.{Phase}
use Rattle.mv_element.specs.declared.element.Phase.TheVariants as phase
use Rattle.mv_element.specs.declared.operation.ElementReply.{ElementReply}
use Rattle.mv_element.specs.declared.operation.ElementReply.TheVariants as element
use Rattle.mv_element.proofs.States.{state_by_phase}
use Rattle.mv_latch.specs.declared.operation.LatchReply.{LatchReply}
use Rattle.mv_latch.specs.declared.operation.LatchReply.TheVariants as latch
use Rattle.mv_machine.specs.declared.entry.Object.{Object}
use Rattle.mv_machine.specs.declared.entry.Object.TheVariants.{Ecb, Element, Volume, Latches}
use Rattle.mv_machine.specs.declared.entry.Op.{Op}
use Rattle.mv_machine.specs.declared.entry.Op.TheVariants as op_on
use Rattle.mv_machine.specs.declared.entry.Reply.{Reply}
use Rattle.mv_machine.specs.declared.entry.Reply.TheVariants as reply
use Rattle.mv_machine.specs.declared.entry.VolumeReply.{VolumeReply}
use Rattle.mv_machine.specs.declared.entry.VolumeReply.TheVariants.{Value, Stored}
use Rattle.mv_machine.specs.System.{System, admitted, place_of, reply_to}
use Rattle.mv_oracle.specs.declared.answer.Answer.{Answer}
use Rattle.mv_oracle.specs.declared.operation.Operation.{Operation}
use Rattle.mv_oracle.specs.Answer.{answer_of, phase_number}
use Rattle.mv_oracle.specs.Line.{IsNextOf, entry_with}
use Rattle.mv_oracle.specs.Reply.{reply_of, phase_of, state_of}

-- the numbers of the answer with this place and reply mean them again
abbrev IsBack : Object → ℕ → Reply → Type 0
IsBack o place r = (reply_of o (answer_of place r) ≡ Some r) × ((answer_of place r).place ≡ place)

ecb_back : (n place : ℕ) (r : EcbReply) → IsBack (Ecb n) place (reply.Ecb r)
ecb_back n place ecb.Armed = (refl, refl)
ecb_back n place (ecb.Linked x) = (refl, refl)
ecb_back n place (ecb.Complete d) = (refl, refl)
ecb_back n place ecb.Waiting = (refl, refl)
ecb_back n place ecb.Open = (refl, refl)
ecb_back n place ecb.Posted = (refl, refl)
ecb_back n place (ecb.Woke x) = (refl, refl)
ecb_back n place (ecb.Already d) = (refl, refl)
ecb_back n place (ecb.Word w) = (refl, refl)

phase_back : (p : Phase) → phase_of (phase_number p) ≡ Some p
phase_back phase.Free = refl
phase_back phase.Reset = refl
phase_back phase.Prereleased = refl
phase_back phase.Paused = refl
phase_back phase.Released = refl

state_back : (s : ElementState) → state_of s.generation (phase_of (phase_number s.phase)) s.code ≡ Some s
state_back s =
    ap (λ (p : Option Phase). state_of s.generation p s.code) (phase_back s.phase)
    ∙ ap (λ (b : Bool). if b then Some (in_phase s.phase s.generation s.code) else None) s.kept
    ∙ ap (λ (t : ElementState). Some t) (state_by_phase s)

element_back : (n place : ℕ) (r : ElementReply) → IsBack (Element n) place (reply.Element r)
element_back n place (element.Opened g) = (refl, refl)
element_back n place element.InUse = (refl, refl)
element_back n place element.Parked = (refl, refl)
element_back n place (element.Given code next) = (refl, refl)
element_back n place (element.Spent g) = (refl, refl)
element_back n place element.Busy = (refl, refl)
element_back n place element.NotYet = (refl, refl)
element_back n place element.Early = (refl, refl)
element_back n place element.Woke = (refl, refl)
element_back n place element.Already = (refl, refl)
element_back n place element.Closed = (refl, refl)
element_back n place (element.State s) =
    (ap (λ (o : Option ElementState). option_map (λ r. reply.Element r) (option_map (λ t. element.State t) o)) (state_back s), refl)

volume_back : (n place : ℕ) (r : VolumeReply) → IsBack (Volume n) place (reply.Volume r)
volume_back n place (Value m) = (refl, refl)
volume_back n place Stored = (refl, refl)

latch_back : (place : ℕ) (r : LatchReply) → IsBack Latches place (reply.Latch r)
latch_back place (latch.Granted id) = (refl, refl)
latch_back place (latch.Queued id) = (refl, refl)
latch_back place (latch.NotNow id) = (refl, refl)
latch_back place latch.Waiting = (refl, refl)
latch_back place latch.Gone = (refl, refl)
latch_back place (latch.Released granted) = (refl, refl)
latch_back place (latch.Purged removed granted) = (refl, refl)

-- what an option has, if it has anything
inside : Reply → Option Reply → Reply
inside other (Some r) = r
inside other None = other

inside_pair : ℕ × Reply → Option (ℕ × Reply) → ℕ × Reply
inside_pair other (Some x) = x
inside_pair other None = other

back_of : (o : Object) (place : ℕ) (x r : Reply) → Some x ≡ Some r → IsBack o place x → IsBack o place r
unfolding inside
back_of o place x r e back = subst (λ (t : Reply). IsBack o place t) (ap (inside x) e) back

-- the reply is of the object's kind
reply_back : (s : System) (k : ℕ) (o : Object) (op : Op) (place : ℕ) (r : Reply) → reply_to s k o op ≡ Some r → IsBack o place r
reply_back s k (Ecb n) (op_on.Ecb op) place r e = back_of (Ecb n) place _ r e (ecb_back n place _)
reply_back s k (Ecb n) (op_on.Element op) place r e = cc
reply_back s k (Ecb n) (op_on.Volume op) place r e = cc
reply_back s k (Ecb n) (op_on.Latch op) place r e = cc
reply_back s k (Element n) (op_on.Ecb op) place r e = cc
reply_back s k (Element n) (op_on.Element op) place r e = back_of (Element n) place _ r e (element_back n place _)
reply_back s k (Element n) (op_on.Volume op) place r e = cc
reply_back s k (Element n) (op_on.Latch op) place r e = cc
reply_back s k (Volume n) (op_on.Ecb op) place r e = cc
reply_back s k (Volume n) (op_on.Element op) place r e = cc
reply_back s k (Volume n) (op_on.Volume op) place r e = back_of (Volume n) place _ r e (volume_back n place _)
reply_back s k (Volume n) (op_on.Latch op) place r e = cc
reply_back s k Latches (op_on.Ecb op) place r e = cc
reply_back s k Latches (op_on.Element op) place r e = cc
reply_back s k Latches (op_on.Volume op) place r e = cc
reply_back s k Latches (op_on.Latch op) place r e = back_of Latches place _ r e (latch_back place _)

-- a place with the reply there, if there is one
abbrev paired : ℕ → Option Reply → Option (ℕ × Reply)
paired p m = option_map (λ r. (p, r)) m

-- what an answer says: the operation is admitted, the object's place, and the reply
record Says (b : Bool) (p : ℕ) (m : Option Reply) (place : ℕ) (r : Reply) : Type 0 where
  admits : b ≡ true
  counts : place ≡ p
  replies : m ≡ Some r

says : (b : Bool) (p : ℕ) (m : Option Reply) (place : ℕ) (r : Reply) → (if b then paired p m else None) ≡ Some (place, r) → Says b p m place r
unfolding inside_pair
says true p (Some x) place r e = record {
  admits = refl;
  counts = sym (ap (λ (o : Option (ℕ × Reply)). (inside_pair (p, x) o).0) e);
  replies = ap (λ (o : Option (ℕ × Reply)). option_map (λ (y : ℕ × Reply). y.1) o) e;
}
says true p None place r e = cc
says false p m place r e = cc

pub next_of : (x : Operation) (a : Answer) → IsNextOf x a
next_of x a c s o op place r requested answered written =
    let said = says (admitted c s x.caller o op) (place_of s o) (reply_to s x.caller o op) place r answered in
    let back = reply_back s x.caller o op place r said.replies in
    let read : reply_of o a ≡ Some r = ap (λ (b : Answer). reply_of o b) written ∙ back.0 in
    let at : a.place ≡ place = ap (λ (b : Answer). b.place) written ∙ back.1 in (
      ap (λ (q : Option (Object × Op)). option_and_then (λ z. option_map (λ t. entry_with x.caller z.0 a.place z.1 t) (reply_of z.0 a)) q)
          requested
          ∙ ap (λ (m : Option Reply). option_map (λ t. entry_with x.caller o a.place op t) m) read
          ∙ ap (λ (n : ℕ). Some (entry_with x.caller o n op r)) at,
      record { admits = said.admits; place = said.counts; reply = sym said.replies },
    )
