-- What an owner's operations on its blocks are answered, by its own entries.
use Rattle.std.proofs.Common.{◌≡◌, ℕ, Bool, true, false, List, Some, refl, sym, ap, ◌∙◌, subst}
use Rattle.std.proofs.lemmas.Bool.{false≢true}
use Rattle.mv_ecb.specs.declared.operation.EcbOp.{EcbOp}
use Rattle.mv_ecb.specs.declared.operation.EcbOp.TheVariants.{Arm, Extend, Settle}
use Rattle.mv_ecb.specs.declared.operation.EcbReply.{EcbReply}
use Rattle.mv_ecb.specs.Table.{ecb_step}
use Rattle.mv_ecb.specs.Word.{EcbState, Zero, Waiting, Extended, Complete}
use Rattle.mv_machine.specs.declared.entry.Entry.{Entry}
use Rattle.mv_machine.specs.declared.entry.Object.TheVariants.{Ecb}
use Rattle.mv_machine.specs.declared.entry.Op.TheVariants as op_on
use Rattle.mv_machine.specs.Legal.{IsNext, Legal, after, of}
use Rattle.mv_machine.specs.Owned.{owner_at, is_owners}
use Rattle.mv_config.specs.Setup.{Setup, owner_of}
use Rattle.mv_machine.proofs.Owners.{made_by_owner}
use Rattle.mv_calls.specs.Keeping.{kept_of}
use Rattle.mv_calls.specs.Known.{BlockAgrees, IsArmReply, IsSettleReply}
use Rattle.mv_machine.specs.Replies.{OnEcb}
use Rattle.mv_calls.specs.Rest.{no_waits, waits_from}
use Rattle.mv_calls.proofs.Blocks.{block_agrees}
use Rattle.mv_machine.proofs.Replies.{ecb_reply_is}

-- an arm of a block that is neither armed nor extended
arm_says : (c : Setup) (n : ℕ) (x : EcbState) (a e : Bool) → BlockAgrees c n x a e → a ≡ false → e ≡ false → IsArmReply (ecb_step Arm x).1
arm_says c n Zero a e h idle plain = tt
arm_says c n Waiting a e h idle plain = false≢true (sym idle ∙ h.0)
arm_says c n (Extended y) a e h idle plain = false≢true (sym plain ∙ h.0)
arm_says c n (Complete d) a e h idle plain = tt

-- an extend of such a block
extend_says : (c : Setup) (n y : ℕ) (x : EcbState) (a e : Bool) → BlockAgrees c n x a e → a ≡ false → e ≡ false
    → IsArmReply (ecb_step (Extend y) x).1
extend_says c n y Zero a e h idle plain = tt
extend_says c n y Waiting a e h idle plain = false≢true (sym idle ∙ h.0)
extend_says c n y (Extended z) a e h idle plain = false≢true (sym plain ∙ h.0)
extend_says c n y (Complete d) a e h idle plain = tt

-- a settle of one that is not extended
settle_says : (c : Setup) (n : ℕ) (x : EcbState) (a e : Bool) → BlockAgrees c n x a e → e ≡ false → IsSettleReply (ecb_step Settle x).1
settle_says c n Zero a e h plain = tt
settle_says c n Waiting a e h plain = tt
settle_says c n (Extended y) a e h plain = false≢true (sym plain ∙ h.0)
settle_says c n (Complete d) a e h plain = tt

-- the reply is so where it is so in each state that agrees with the caller's entries
by_log : (c : Setup) (es : List Entry) (e : Entry) (n : ℕ) (op : EcbOp) (P : EcbReply → Type 0) → Legal c es → IsNext c (after c es) e
    → e.object ≡ Ecb n → e.op ≡ op_on.Ecb op → is_owners (op_on.Ecb op) ≡ true
    → ((x : EcbState) → BlockAgrees c n x ((waits_from no_waits (of e.caller es)).armed n) ((kept_of e.caller (of e.caller es)).extended n)
    → P (ecb_step op x).1)
    → OnEcb P e.reply
by_log c es e n op P l h o is owners says =
    let at : owner_at c e.object ≡ Some e.caller = made_by_owner c (after c es) e.caller e.object e.place e.op e.reply h
    (ap is_owners is ∙ owners) in
    let here : Some (owner_of c n) ≡ Some e.caller = sym (ap (owner_at c) o) ∙ at in
    let own : owner_of c n ≡ e.caller = cc in
    subst (OnEcb P) (sym (ecb_reply_is c (after c es) e n op h o is)) (says ((after c es).ecb n).state (block_agrees c n e.caller own es l))

-- so of an entry: an arm
pub arm_reply : (c : Setup) (es : List Entry) (e : Entry) (n : ℕ) → Legal c es → IsNext c (after c es) e → e.object ≡ Ecb n
    → e.op ≡ op_on.Ecb Arm
    → (waits_from no_waits (of e.caller es)).armed n ≡ false → (kept_of e.caller (of e.caller es)).extended n ≡ false
    → OnEcb IsArmReply e.reply
arm_reply c es e n l h o is idle plain = by_log c es e n Arm IsArmReply l h o is refl (λ x a. arm_says c n x _ _ a idle plain)

-- an extend
pub extend_reply : (c : Setup) (es : List Entry) (e : Entry) (n exit : ℕ) → Legal c es → IsNext c (after c es) e → e.object ≡ Ecb n
    → e.op ≡ op_on.Ecb (Extend exit)
    → (waits_from no_waits (of e.caller es)).armed n ≡ false → (kept_of e.caller (of e.caller es)).extended n ≡ false
    → OnEcb IsArmReply e.reply
extend_reply c es e n exit l h o is idle plain = by_log c es e n (Extend exit) IsArmReply l h o is refl
    (λ x a. extend_says c n exit x _ _ a idle plain)

-- a settle
pub settle_reply : (c : Setup) (es : List Entry) (e : Entry) (n : ℕ) → Legal c es → IsNext c (after c es) e → e.object ≡ Ecb n
    → e.op ≡ op_on.Ecb Settle
    → (kept_of e.caller (of e.caller es)).extended n ≡ false → OnEcb IsSettleReply e.reply
settle_reply c es e n l h o is plain = by_log c es e n Settle IsSettleReply l h o is refl (λ x a. settle_says c n x _ _ a plain)
