-- What the reply of a next entry is.
use Rattle.std.proofs.Common.{◌≡◌, ◌∷◌, ℕ, ◌++◌, Bool, true, false, List, [], cond, Some, refl, sym, ◌∙◌, subst}
use Rattle.std.proofs.lemmas.Bool.{false≢true}
use Rattle.mv_ecb.specs.declared.operation.EcbOp.{EcbOp}
use Rattle.mv_ecb.specs.Table.{ecb_step}
use Rattle.mv_ecb.specs.Word.{EcbState}
use Rattle.mv_element.specs.declared.operation.ElementOp.{ElementOp}
use Rattle.mv_element.specs.Table.{element_step}
use Rattle.mv_latch.specs.declared.operation.LatchOp.{LatchOp}
use Rattle.mv_latch.specs.declared.operation.LatchOp.TheVariants.{Obtain, Confirm, Release, Purge}
use Rattle.mv_latch.specs.declared.operation.LatchReply.{LatchReply}
use Rattle.mv_latch.specs.declared.operation.LatchReply.TheVariants.{Granted, Queued, NotNow}
use Rattle.mv_latch.specs.declared.request.LatchForm.{LatchForm}
use Rattle.mv_latch.specs.declared.request.Mode.{Mode}
use Rattle.mv_latch.specs.declared.request.Request.{Request}
use Rattle.mv_latch.specs.Latch.{obtain_step, grants, blocker}
use Rattle.mv_latch.specs.LatchSet.{latch_step, list_of}
use Rattle.mv_latch.specs.Request.{queues}
use Rattle.mv_machine.specs.declared.entry.Entry.{Entry}
use Rattle.mv_machine.specs.declared.entry.Object.{Object}
use Rattle.mv_machine.specs.declared.entry.Object.TheVariants.{Ecb, Element, Volume, Latches}
use Rattle.mv_machine.specs.declared.entry.Op.{Op}
use Rattle.mv_machine.specs.declared.entry.Op.TheVariants as op_on
use Rattle.mv_machine.specs.declared.entry.Reply.{Reply}
use Rattle.mv_machine.specs.declared.entry.Reply.TheVariants as reply_of
use Rattle.mv_machine.specs.declared.entry.VolumeOp.{VolumeOp}
use Rattle.mv_machine.specs.Legal.{IsNext}
use Rattle.mv_config.specs.Setup.{Setup}
use Rattle.mv_machine.specs.System.{System, volume_step}
use Rattle.mv_machine.proofs.EntryRuns.{entry_of}
use Rattle.mv_machine.specs.Replies.{IsOfKind, HasPlaceAsNumber}

-- the reply is of the operation's kind, by its parts
of_kind : (c : Setup) (s : System) (k : ℕ) (o : Object) (p : ℕ) (op : Op) (r : Reply) → IsNext c s (entry_of k o p op r) → IsOfKind op r
of_kind c s k (Ecb n) p (op_on.Ecb op) (reply_of.Ecb r) h = tt
of_kind c s k (Element n) p (op_on.Element op) (reply_of.Element r) h = tt
of_kind c s k (Volume n) p (op_on.Volume op) (reply_of.Volume r) h = tt
of_kind c s k Latches p (op_on.Latch op) (reply_of.Latch r) h = tt
of_kind c s k (Ecb n) p (op_on.Ecb op) r h = absurd (cc h.reply)
of_kind c s k (Element n) p (op_on.Element op) r h = absurd (cc h.reply)
of_kind c s k (Volume n) p (op_on.Volume op) r h = absurd (cc h.reply)
of_kind c s k Latches p (op_on.Latch op) r h = absurd (cc h.reply)
of_kind c s k o p op r h = absurd (false≢true h.admits)

-- and of the entry
pub reply_is_of_kind : (c : Setup) (s : System) (e : Entry) → IsNext c s e → IsOfKind e.op e.reply
reply_is_of_kind c s e h = of_kind c s e.caller e.object e.place e.op e.reply h

-- each reply by its table
pub ecb_reply_is : (c : Setup) (s : System) (e : Entry) (n : ℕ) (op : EcbOp) → IsNext c s e → e.object ≡ Ecb n → e.op ≡ op_on.Ecb op
    → e.reply ≡ reply_of.Ecb (ecb_step op (s.ecb n).state).1
ecb_reply_is c s e n op h o x = let r : Some e.reply ≡ Some (reply_of.Ecb (ecb_step op (s.ecb n).state).1) = h.reply ∙ rw (o, x) refl in cc

-- of an element
pub element_reply_is : (c : Setup) (s : System) (e : Entry) (n : ℕ) (op : ElementOp) → IsNext c s e → e.object ≡ Element n
    → e.op ≡ op_on.Element op
    → e.reply ≡ reply_of.Element (element_step op (s.element n).state).1
element_reply_is c s e n op h o x = let r : Some e.reply ≡ Some (reply_of.Element (element_step op (s.element n).state).1) = h.reply
    ∙ rw (o, x) refl in cc

-- of a volume
pub volume_reply_is : (c : Setup) (s : System) (e : Entry) (n : ℕ) (op : VolumeOp) → IsNext c s e → e.object ≡ Volume n
    → e.op ≡ op_on.Volume op
    → e.reply ≡ reply_of.Volume (volume_step op (s.volume n).state).1
volume_reply_is c s e n op h o x = let r : Some e.reply ≡ Some (reply_of.Volume (volume_step op (s.volume n).state).1) = h.reply
    ∙ rw (o, x) refl in cc

-- of the latch set
pub latch_reply_is : (c : Setup) (s : System) (e : Entry) (op : LatchOp) → IsNext c s e → e.object ≡ Latches → e.op ≡ op_on.Latch op
    → e.reply ≡ reply_of.Latch (latch_step e.caller s.latches.place op s.latches.state).1
latch_reply_is c s e op h o x = let r : Some e.reply ≡ Some (reply_of.Latch (latch_step e.caller s.latches.place op s.latches.state).1) =
    h.reply ∙ rw (o, x) refl in cc

-- and of entries by their parts: of a block in a state that is known
pub ecb_answers : (c : Setup) (s : System) (k n p : ℕ) (op : EcbOp) (r : Reply) (x : EcbState) → (s.ecb n).state ≡ x
    → IsNext c s (entry_of k (Ecb n) p (op_on.Ecb op) r) → r ≡ reply_of.Ecb (ecb_step op x).1
ecb_answers c s k n p op r x e h =
    subst (λ z. r ≡ reply_of.Ecb (ecb_step op z).1) e (ecb_reply_is c s (entry_of k (Ecb n) p (op_on.Ecb op) r) n op h refl refl)

pub volume_answers : (c : Setup) (s : System) (k n p : ℕ) (op : VolumeOp) (r : Reply)
    → IsNext c s (entry_of k (Volume n) p (op_on.Volume op) r) → r ≡ reply_of.Volume (volume_step op (s.volume n).state).1
volume_answers c s k n p op r h = volume_reply_is c s (entry_of k (Volume n) p (op_on.Volume op) r) n op h refl refl

pub latches_answer : (c : Setup) (s : System) (k p : ℕ) (op : LatchOp) (r : Reply)
    → IsNext c s (entry_of k Latches p (op_on.Latch op) r) → r ≡ reply_of.Latch (latch_step k s.latches.place op s.latches.state).1
latches_answer c s k p op r h = latch_reply_is c s (entry_of k Latches p (op_on.Latch op) r) op h refl refl

-- an obtain's request has the place as its number
obtained_number : (latch requestor : ℕ) (mode : Mode) (form : LatchForm) (r : Request) (qs : List Request)
    → HasPlaceAsNumber r.id (op_on.Latch (Obtain latch requestor mode form)) (reply_of.Latch (obtain_step r qs).1)
obtained_number latch requestor mode form r qs = go (grants qs r) (queues r.form) where
  go : (b d : Bool) → let z : List Request × LatchReply = cond b (qs ++ r ∷ [], Granted r.id)
      (cond d (qs ++ r ∷ [], Queued r.id) (qs, NotNow (blocker r qs))) in
      HasPlaceAsNumber r.id (op_on.Latch (Obtain latch requestor mode form)) (reply_of.Latch z.1)
  go true d = refl
  go false true = refl
  go false false = tt

-- and each operation on the latch set has none else
numbered : (k place : ℕ) (op : LatchOp) (lists : List (List Request))
    → HasPlaceAsNumber place (op_on.Latch op) (reply_of.Latch (latch_step k place op lists).1)
numbered k place (Obtain latch requestor mode form) lists = obtained_number latch requestor mode form
    (record { id = place; caller = k; requestor = requestor; mode = mode; form = form }) (list_of lists latch)
numbered k place (Confirm latch id) lists = tt
numbered k place (Release latch id conditional) lists = tt
numbered k place (Purge requestor) lists = tt

-- so has an entry, by its parts
has_number : (c : Setup) (s : System) (k : ℕ) (o : Object) (p : ℕ) (op : Op) (r : Reply) → IsNext c s (entry_of k o p op r)
    → HasPlaceAsNumber p op r
has_number c s k Latches p (op_on.Latch op) r h =
    let is : r ≡ reply_of.Latch (latch_step k s.latches.place op s.latches.state).1 = (let q = h.reply in cc) in
    let at : p ≡ s.latches.place = h.place in
    subst (λ z. HasPlaceAsNumber z (op_on.Latch op) r) (sym at)
    (subst (λ z. HasPlaceAsNumber s.latches.place (op_on.Latch op) z) (sym is) (numbered k s.latches.place op s.latches.state))
has_number c s k (Ecb n) p (op_on.Ecb op) r h = tt
has_number c s k (Element n) p (op_on.Element op) r h = tt
has_number c s k (Volume n) p (op_on.Volume op) r h = tt
has_number c s k o p op r h = absurd (false≢true h.admits)

-- and as a whole
pub request_has_place : (c : Setup) (s : System) (e : Entry) → IsNext c s e → HasPlaceAsNumber e.place e.op e.reply
request_has_place c s e h = has_number c s e.caller e.object e.place e.op e.reply h
