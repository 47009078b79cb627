-- No line's text has LF in it.
use Rattle.std.proofs.Common.{ℕ, true, false, Option, Some, None, List, [], ◌∷◌, ◌++◌, decimal, refl, sym, subst, arith}
use Rattle.std.specs.Prelude.{codes, Bool}
use Rattle.std.specs.List.{flat_map}
use Rattle.std.proofs.lemmas.List.Concat.{flat_map-cons}
use Rattle.mv_ecb.specs.declared.operation.EcbOp.{EcbOp}
use Rattle.mv_ecb.specs.declared.operation.EcbOp.TheVariants as ecb_op_of
use Rattle.mv_ecb.specs.declared.operation.EcbReply.{EcbReply}
use Rattle.mv_ecb.specs.declared.operation.EcbReply.TheVariants as ecb_reply_of
use Rattle.mv_element.specs.declared.element.Phase.{Phase}
use Rattle.mv_element.specs.declared.element.Phase.TheVariants.{Free, Reset, Prereleased, Paused, Released}
use Rattle.mv_element.specs.declared.operation.ElementOp.{ElementOp}
use Rattle.mv_element.specs.declared.operation.ElementOp.TheVariants as element_op_of
use Rattle.mv_element.specs.declared.operation.ElementReply.{ElementReply}
use Rattle.mv_element.specs.declared.operation.ElementReply.TheVariants as element_reply_of
use Rattle.mv_latch.specs.declared.request.Mode.{Mode}
use Rattle.mv_latch.specs.declared.request.Mode.TheVariants.{Shared, Exclusive}
use Rattle.mv_latch.specs.declared.request.LatchForm.{LatchForm}
use Rattle.mv_latch.specs.declared.request.LatchForm.TheVariants as form
use Rattle.mv_latch.specs.declared.operation.LatchOp.{LatchOp}
use Rattle.mv_latch.specs.declared.operation.LatchOp.TheVariants as latch_op_of
use Rattle.mv_latch.specs.declared.operation.LatchReply.{LatchReply}
use Rattle.mv_latch.specs.declared.operation.LatchReply.TheVariants as latch_reply_of
use Rattle.mv_machine.specs.declared.entry.VolumeOp.{VolumeOp}
use Rattle.mv_machine.specs.declared.entry.VolumeOp.TheVariants.{Read, Write}
use Rattle.mv_machine.specs.declared.entry.VolumeReply.{VolumeReply}
use Rattle.mv_machine.specs.declared.entry.VolumeReply.TheVariants.{Value, Stored}
use Rattle.mv_machine.specs.declared.entry.Object.{Object}
use Rattle.mv_machine.specs.declared.entry.Object.TheVariants.{Ecb, Element, Volume, Latches}
use Rattle.mv_machine.specs.declared.entry.Op.{Op}
use Rattle.mv_machine.specs.declared.entry.Op.TheVariants as op_on
use Rattle.mv_machine.specs.declared.entry.Reply.{Reply}
use Rattle.mv_machine.specs.declared.entry.Reply.TheVariants as reply_of
use Rattle.mv_machine.specs.declared.entry.Entry.{Entry}
use Rattle.mv_operationtext.specs.Words.{◌<+>◌}
use Rattle.mv_operationtext.specs.EcbText.{ecb_op_text, ecb_reply_text}
use Rattle.mv_operationtext.specs.ElementText.{phase_text, element_op_text, element_reply_text}
use Rattle.mv_operationtext.specs.VolumeText.{volume_op_text, volume_reply_text}
use Rattle.mv_operationtext.specs.LatchText.{mode_text, form_text, condition_text, latch_op_text, latch_reply_text}
use Rattle.mv_operationtext.specs.declared.version.Version.TheVariants.{One, Two}
use Rattle.mv_operationtext.specs.EntryText.{caller_text, object_text, op_text, reply_text, entry_text}
use Rattle.mv_entrytext.specs.Journal as journal
use Rattle.mv_entrytext.specs.Journal.{Line, line_text}
use Rattle.mv_entrytext.proofs.Parts.{Lacks, Lacks-append, Lacks-decimal}

abbrev pub IsOneLine : List ℕ → Type 0
IsOneLine text = Lacks 10 text

num : (n : ℕ) → IsOneLine (decimal n)
num n = Lacks-decimal 10 n (omega arith)

beside : (a b : List ℕ) → IsOneLine a → IsOneLine b → IsOneLine (a <+> b)
beside a b p q = Lacks-append 10 a (32 ∷ b) p q

two : (a b : ℕ) → IsOneLine (decimal a <+> decimal b)
two a b = beside (decimal a) (decimal b) (num a) (num b)

ecb_op_line : (op : EcbOp) → IsOneLine (ecb_op_text op)
ecb_op_line ecb_op_of.Arm = refl
ecb_op_line (ecb_op_of.Extend x) = num x
ecb_op_line ecb_op_of.Settle = refl
ecb_op_line ecb_op_of.Clear = refl
ecb_op_line (ecb_op_of.Post c) = num c
ecb_op_line ecb_op_of.Test = refl

ecb_reply_line : (r : EcbReply) → IsOneLine (ecb_reply_text r)
ecb_reply_line ecb_reply_of.Armed = refl
ecb_reply_line (ecb_reply_of.Linked x) = num x
ecb_reply_line (ecb_reply_of.Complete c) = num c
ecb_reply_line ecb_reply_of.Waiting = refl
ecb_reply_line ecb_reply_of.Open = refl
ecb_reply_line ecb_reply_of.Posted = refl
ecb_reply_line (ecb_reply_of.Woke x) = num x
ecb_reply_line (ecb_reply_of.Already c) = num c
ecb_reply_line (ecb_reply_of.Word w) = num w

phase_line : (p : Phase) → IsOneLine (phase_text p)
phase_line Free = refl
phase_line Reset = refl
phase_line Prereleased = refl
phase_line Paused = refl
phase_line Released = refl

element_op_line : (op : ElementOp) → IsOneLine (element_op_text op)
element_op_line element_op_of.Open = refl
element_op_line (element_op_of.Pause g) = num g
element_op_line (element_op_of.Resume g) = num g
element_op_line (element_op_of.Release g d) = two g d
element_op_line (element_op_of.Close g) = num g
element_op_line element_op_of.Test = refl

element_reply_line : (r : ElementReply) → IsOneLine (element_reply_text r)
element_reply_line (element_reply_of.Opened g) = num g
element_reply_line element_reply_of.InUse = refl
element_reply_line element_reply_of.Parked = refl
element_reply_line (element_reply_of.Given c n) = two c n
element_reply_line (element_reply_of.Spent g) = num g
element_reply_line element_reply_of.Busy = refl
element_reply_line element_reply_of.NotYet = refl
element_reply_line element_reply_of.Early = refl
element_reply_line element_reply_of.Woke = refl
element_reply_line element_reply_of.Already = refl
element_reply_line element_reply_of.Closed = refl
element_reply_line (element_reply_of.State s) =
    beside (decimal s.generation) (phase_text s.phase <+> decimal s.code) (num s.generation)
    (beside (phase_text s.phase) (decimal s.code) (phase_line s.phase) (num s.code))

volume_op_line : (op : VolumeOp) → IsOneLine (volume_op_text op)
volume_op_line Read = refl
volume_op_line (Write n) = num n

volume_reply_line : (r : VolumeReply) → IsOneLine (volume_reply_text r)
volume_reply_line (Value n) = num n
volume_reply_line Stored = refl

mode_line : (m : Mode) → IsOneLine (mode_text m)
mode_line Shared = refl
mode_line Exclusive = refl

form_line : (f : LatchForm) → IsOneLine (form_text f)
form_line form.Conditional = refl
form_line form.Waiting = refl
form_line (form.Posted ecb) = num ecb

condition_line : (b : Bool) → IsOneLine (condition_text b)
condition_line true = refl
condition_line false = refl

latch_op_line : (op : LatchOp) → IsOneLine (latch_op_text op)
latch_op_line (latch_op_of.Obtain latch requestor mode f) =
    beside (decimal latch) (decimal requestor <+> mode_text mode <+> form_text f) (num latch)
    (beside (decimal requestor) (mode_text mode <+> form_text f) (num requestor)
    (beside (mode_text mode) (form_text f) (mode_line mode) (form_line f)))
latch_op_line (latch_op_of.Confirm latch id) = two latch id
latch_op_line (latch_op_of.Release latch id b) =
    beside (decimal latch) (decimal id <+> condition_text b) (num latch)
    (beside (decimal id) (condition_text b) (num id) (condition_line b))
latch_op_line (latch_op_of.Purge requestor) = num requestor

latch_reply_line : (r : LatchReply) → IsOneLine (latch_reply_text r)
latch_reply_line (latch_reply_of.Granted id) = num id
latch_reply_line (latch_reply_of.Queued id) = num id
latch_reply_line (latch_reply_of.NotNow id) = num id
latch_reply_line latch_reply_of.Waiting = refl
latch_reply_line latch_reply_of.Gone = refl
latch_reply_line (latch_reply_of.Released n) = num n
latch_reply_line (latch_reply_of.Purged m n) = two m n

object_line : (o : Object) → IsOneLine (object_text o)
object_line (Ecb n) = num n
object_line (Element n) = num n
object_line (Volume n) = num n
object_line Latches = refl

op_line : (op : Op) → IsOneLine (op_text op)
op_line (op_on.Ecb op) = ecb_op_line op
op_line (op_on.Element op) = element_op_line op
op_line (op_on.Volume op) = volume_op_line op
op_line (op_on.Latch op) = latch_op_line op

reply_line : (r : Reply) → IsOneLine (reply_text r)
reply_line (reply_of.Ecb r) = ecb_reply_line r
reply_line (reply_of.Element r) = element_reply_line r
reply_line (reply_of.Volume r) = volume_reply_line r
reply_line (reply_of.Latch r) = latch_reply_line r

caller_line : (caller : ℕ) (call : Option ℕ) → IsOneLine (caller_text caller call)
caller_line caller None = num caller
caller_line caller (Some call) = Lacks-append 10 (decimal caller) (46 ∷ decimal call) (num caller) (num call)

entry_line : (call : Option ℕ) (e : Entry) → IsOneLine (entry_text call e)
unfolding entry_text
entry_line call e =
    beside (caller_text e.caller call) (object_text e.object <+> decimal e.place <+> op_text e.op <+> codes "=" <+> reply_text e.reply)
    (caller_line e.caller call)
    (beside (object_text e.object) (decimal e.place <+> op_text e.op <+> codes "=" <+> reply_text e.reply) (object_line e.object)
    (beside (decimal e.place) (op_text e.op <+> codes "=" <+> reply_text e.reply) (num e.place)
    (beside (op_text e.op) (codes "=" <+> reply_text e.reply) (op_line e.op) (reply_line e.reply))))

targets_line : (ts : List ℕ) → IsOneLine (flat_map (λ t. codes " " ++ decimal t) ts)
targets_line [] = refl
targets_line (t ∷ ts) =
    subst (λ (text : List ℕ). IsOneLine text) (sym (flat_map-cons (λ t. codes " " ++ decimal t) t ts))
    (Lacks-append 10 (decimal t) (flat_map (λ t. codes " " ++ decimal t) ts) (num t) (targets_line ts))

pub is_one_line : (l : Line) → IsOneLine (line_text l)
is_one_line (journal.JournalOf One) = refl
is_one_line (journal.JournalOf Two) = refl
is_one_line (journal.Callers n) = num n
is_one_line (journal.Elements n) = num n
is_one_line (journal.Volumes n) = num n
is_one_line (journal.Latches n) = num n
is_one_line (journal.Quota q p) = two q p
is_one_line (journal.Budget n) = num n
is_one_line (journal.Owner n) = num n
is_one_line (journal.ExitTo x) =
    Lacks-append 10 (decimal x.source) (flat_map (λ t. codes " " ++ decimal t) x.targets) (num x.source) (targets_line x.targets)
is_one_line journal.Events = refl
is_one_line (journal.EntryOf call e) = entry_line call e
is_one_line (journal.End n) = num n
