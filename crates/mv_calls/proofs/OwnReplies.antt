-- What an owner's operations on its elements are answered, by its own entries.
use Rattle.std.proofs.Common.{◌≡◌, ℕ, true, false, List, Some, refl, sym, ap, ◌∙◌, subst}
use Rattle.mv_element.specs.declared.element.ElementState.{ElementState}
use Rattle.mv_element.specs.declared.operation.ElementOp.{ElementOp}
use Rattle.mv_element.specs.declared.operation.ElementOp.TheVariants as element_op
use Rattle.mv_element.specs.declared.operation.ElementReply.{ElementReply}
use Rattle.mv_element.specs.declared.operation.ElementReply.TheVariants as element_reply
use Rattle.mv_element.specs.Table.{element_step}
use Rattle.mv_machine.specs.declared.entry.Entry.{Entry}
use Rattle.mv_machine.specs.declared.entry.Object.TheVariants.{Element}
use Rattle.mv_machine.specs.declared.entry.Op.TheVariants as op_on
use Rattle.mv_machine.specs.Legal.{IsNext, Legal, after, of}
use Rattle.mv_machine.specs.Owned.{owner_at, is_owners}
use Rattle.mv_config.specs.Setup.{Setup, element_owner}
use Rattle.mv_machine.proofs.Owners.{made_by_owner}
use Rattle.mv_calls.specs.Keeping.{kept_of}
use Rattle.mv_calls.specs.Known.{ElementAgrees, IsPauseReply, IsResumeReply, IsNotBusy}
use Rattle.mv_machine.specs.Replies.{OnElement}
use Rattle.mv_calls.specs.Rest.{no_waits, waits_from}
use Rattle.mv_calls.proofs.AtRest.{pause_says, resume_says, close_says, open_says, pause_idle, close_idle, resume_parked}
use Rattle.mv_calls.proofs.Elements.{element_agrees}
use Rattle.mv_machine.proofs.Replies.{element_reply_is}

-- the reply is so where it is so in each state that agrees with the caller's entries
by_log : (c : Setup) (es : List Entry) (e : Entry) (n : ℕ) (op : ElementOp) (P : ElementReply → Type 0) → Legal c es
    → IsNext c (after c es) e → e.object ≡ Element n → e.op ≡ op_on.Element op → is_owners (op_on.Element op) ≡ true
    → ((x : ElementState) → ElementAgrees x ((kept_of e.caller (of e.caller es)).in_use n) ((waits_from no_waits (of e.caller es)).parked n)
    ((kept_of e.caller (of e.caller es)).generation n) → P (element_step op x).1)
    → OnElement P e.reply
by_log c es e n op P l h o is owners says =
    let at : owner_at c e.object ≡ Some e.caller = made_by_owner c (after c es) e.caller e.object e.place e.op e.reply h
    (ap is_owners is ∙ owners) in
    let here : Some (element_owner c n) ≡ Some e.caller = sym (ap (owner_at c) o) ∙ at in
    let own : element_owner c n ≡ e.caller = cc in
    subst (OnElement P) (sym (element_reply_is c (after c es) e n op h o is))
    (says ((after c es).element n).state (element_agrees c n e.caller own es l))

-- a pause
pub pause_reply : (c : Setup) (es : List Entry) (e : Entry) (n g : ℕ) → Legal c es → IsNext c (after c es) e → e.object ≡ Element n
    → e.op ≡ op_on.Element (element_op.Pause g)
    → (kept_of e.caller (of e.caller es)).in_use n ≡ true → (kept_of e.caller (of e.caller es)).generation n ≡ g
    → (waits_from no_waits (of e.caller es)).parked n ≡ false
    → OnElement (IsPauseReply g) e.reply
pause_reply c es e n g l h o is used now idle = by_log c es e n (element_op.Pause g) (IsPauseReply g) l h o is refl
    (λ x a. pause_says x _ _ g (subst (ElementAgrees x _ _) now a) used idle)

-- a resume
pub resume_reply : (c : Setup) (es : List Entry) (e : Entry) (n g : ℕ) → Legal c es → IsNext c (after c es) e → e.object ≡ Element n
    → e.op ≡ op_on.Element (element_op.Resume g)
    → (kept_of e.caller (of e.caller es)).generation n ≡ g → (waits_from no_waits (of e.caller es)).parked n ≡ true
    → OnElement (IsResumeReply g) e.reply
resume_reply c es e n g l h o is now parked = by_log c es e n (element_op.Resume g) (IsResumeReply g) l h o is refl
    (λ x a. resume_says x _ _ g (subst (ElementAgrees x _ _) now a) parked)

-- a close
pub close_reply : (c : Setup) (es : List Entry) (e : Entry) (n g : ℕ) → Legal c es → IsNext c (after c es) e → e.object ≡ Element n
    → e.op ≡ op_on.Element (element_op.Close g)
    → (kept_of e.caller (of e.caller es)).in_use n ≡ true → (kept_of e.caller (of e.caller es)).generation n ≡ g
    → (waits_from no_waits (of e.caller es)).parked n ≡ false
    → OnElement (λ r. r ≡ element_reply.Closed) e.reply
close_reply c es e n g l h o is used now idle = by_log c es e n (element_op.Close g) (λ r. r ≡ element_reply.Closed) l h o is refl
    (λ x a. close_says x _ _ g (subst (ElementAgrees x _ _) now a) used idle)

-- an opening
pub open_reply : (c : Setup) (es : List Entry) (e : Entry) (n : ℕ) → Legal c es → IsNext c (after c es) e → e.object ≡ Element n
    → e.op ≡ op_on.Element element_op.Open
    → (kept_of e.caller (of e.caller es)).in_use n ≡ false
    → OnElement (λ r. r ≡ element_reply.Opened ((kept_of e.caller (of e.caller es)).generation n)) e.reply
open_reply c es e n l h o is free = by_log c es e n element_op.Open
    (λ r. r ≡ element_reply.Opened ((kept_of e.caller (of e.caller es)).generation n)) l h o is refl (λ x a. open_says x _ _ _ a free)

-- any generation
pub pause_is_not_busy : (c : Setup) (es : List Entry) (e : Entry) (n g : ℕ) → Legal c es → IsNext c (after c es) e → e.object ≡ Element n
    → e.op ≡ op_on.Element (element_op.Pause g)
    → (waits_from no_waits (of e.caller es)).parked n ≡ false → OnElement IsNotBusy e.reply
pause_is_not_busy c es e n g l h o is idle = by_log c es e n (element_op.Pause g) IsNotBusy l h o is refl
    (λ x a. pause_idle x _ _ _ g a idle)

-- a close
pub close_is_not_busy : (c : Setup) (es : List Entry) (e : Entry) (n g : ℕ) → Legal c es → IsNext c (after c es) e → e.object ≡ Element n
    → e.op ≡ op_on.Element (element_op.Close g)
    → (waits_from no_waits (of e.caller es)).parked n ≡ false → OnElement IsNotBusy e.reply
close_is_not_busy c es e n g l h o is idle = by_log c es e n (element_op.Close g) IsNotBusy l h o is refl
    (λ x a. close_idle x _ _ _ g a idle)

-- a resume behind a pause that parked
pub resume_is_not_busy : (c : Setup) (es : List Entry) (e : Entry) (n g : ℕ) → Legal c es → IsNext c (after c es) e → e.object ≡ Element n
    → e.op ≡ op_on.Element (element_op.Resume g)
    → (waits_from no_waits (of e.caller es)).parked n ≡ true → OnElement IsNotBusy e.reply
resume_is_not_busy c es e n g l h o is parked = by_log c es e n (element_op.Resume g) IsNotBusy l h o is refl
    (λ x a. resume_parked x _ _ _ g a parked)
