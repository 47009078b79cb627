-- What an owner finds at its blocks and elements, by its own entries.
use Rattle.std.proofs.Common.{◌≡◌, ℕ, Bool, true, false, List, refl, sym, ◌∙◌, arith}
use Rattle.std.proofs.lemmas.Bool.{false≢true}
use Rattle.mv_ecb.specs.Word.{EcbState, Zero, Waiting, Extended, Complete}
use Rattle.mv_element.specs.declared.element.ElementState.{ElementState}
use Rattle.mv_element.specs.declared.operation.ElementOp.TheVariants as element_op
use Rattle.mv_element.specs.declared.operation.ElementReply.TheVariants as element_reply
use Rattle.mv_element.specs.Table.{element_step}
use Rattle.mv_machine.specs.declared.entry.Entry.{Entry}
use Rattle.mv_machine.specs.Legal.{Legal, after, of}
use Rattle.mv_config.specs.Setup.{Setup, owner_of, element_owner}
use Rattle.mv_calls.specs.Keeping.{kept_of}
use Rattle.mv_calls.specs.Known.{BlockAgrees, ElementAgrees, IsExtendedOrComplete, IsPlain, IsPauseReply, IsResumeReply, IsNotBusy}
use Rattle.mv_calls.specs.Known.{IsUnpaused}
use Rattle.mv_calls.specs.Rest.{IsAtRest, no_waits, waits_from}
use Rattle.mv_calls.proofs.Blocks.{block_agrees}
use Rattle.mv_calls.proofs.Elements.{element_agrees}

-- ---- blocks
extended_is : (c : Setup) (n : ℕ) (x : EcbState) (a e : Bool) → BlockAgrees c n x a e → e ≡ true → IsExtendedOrComplete c n x
extended_is c n Zero a e h is = false≢true (sym h ∙ is)
extended_is c n Waiting a e h is = false≢true (sym h.1 ∙ is)
extended_is c n (Extended y) a e h is = h.1
extended_is c n (Complete d) a e h is = tt

-- a block that is neither armed nor extended has no task that waits
plain_is : (c : Setup) (n : ℕ) (x : EcbState) (a e : Bool) → BlockAgrees c n x a e → a ≡ false → e ≡ false → IsPlain x
plain_is c n Zero a e h idle is = tt
plain_is c n Waiting a e h idle is = false≢true (sym idle ∙ h.0)
plain_is c n (Extended y) a e h idle is = false≢true (sym is ∙ h.0)
plain_is c n (Complete d) a e h idle is = tt

-- a block that its owner holds extended is extended or complete
pub extended_block : (c : Setup) (es : List Entry) (n : ℕ) → Legal c es → (kept_of (owner_of c n) (of (owner_of c n) es)).extended n ≡ true
    → IsExtendedOrComplete c n ((after c es).ecb n).state
extended_block c es n l is = extended_is c n ((after c es).ecb n).state _ _ (block_agrees c n (owner_of c n) refl es l) is

-- one that its owner neither armed nor extended is plain
pub plain_block : (c : Setup) (es : List Entry) (n : ℕ) → Legal c es → (waits_from no_waits (of (owner_of c n) es)).armed n ≡ false
    → (kept_of (owner_of c n) (of (owner_of c n) es)).extended n ≡ false
    → IsPlain ((after c es).ecb n).state
plain_block c es n l idle is = plain_is c n ((after c es).ecb n).state _ _ (block_agrees c n (owner_of c n) refl es l) idle is

-- a block that is not armed does not wait
not_waiting : (c : Setup) (n : ℕ) (x : EcbState) (a e : Bool) → BlockAgrees c n x a e → a ≡ false → x ≡ Waiting → ⊥
not_waiting c n x a e h idle is = false≢true (sym idle ∙ (rw is at h).0)

-- so no block waits whose owner is at rest
pub no_wait_bit : (c : Setup) (es : List Entry) (n : ℕ) → Legal c es → IsAtRest (of (owner_of c n) es)
    → ((after c es).ecb n).state ≡ Waiting → ⊥
no_wait_bit c es n l rest is = not_waiting c n ((after c es).ecb n).state _ _ (block_agrees c n (owner_of c n) refl es l) (rest.armed n) is

-- ---- elements

-- a pause of the kept generation of an element in use
pub pause_says : (x : ElementState) (u p : Bool) (g : ℕ) → ElementAgrees x u p g → u ≡ true → p ≡ false
    → IsPauseReply g (element_step (element_op.Pause g) x).1
pause_says x u p g h used idle = grind arith

-- a resume of the kept generation behind a pause that parked
pub resume_says : (x : ElementState) (u p : Bool) (g : ℕ) → ElementAgrees x u p g → p ≡ true
    → IsResumeReply g (element_step (element_op.Resume g) x).1
resume_says x u p g h parked = grind arith

-- a close of the kept generation of an element in use
pub close_says : (x : ElementState) (u p : Bool) (g : ℕ) → ElementAgrees x u p g → u ≡ true → p ≡ false
    → (element_step (element_op.Close g) x).1 ≡ element_reply.Closed
close_says x u p g h used idle = grind arith

-- an opening of one that is not in use
pub open_says : (x : ElementState) (u p : Bool) (g : ℕ) → ElementAgrees x u p g → u ≡ false
    → (element_step element_op.Open x).1 ≡ element_reply.Opened g
open_says x u p g h free = grind arith

-- a pause of any generation, where no pause parked
pub pause_idle : (x : ElementState) (u p : Bool) (g m : ℕ) → ElementAgrees x u p g → p ≡ false
    → IsNotBusy (element_step (element_op.Pause m) x).1
pause_idle x u p g m h idle = grind arith

-- and a close
pub close_idle : (x : ElementState) (u p : Bool) (g m : ℕ) → ElementAgrees x u p g → p ≡ false
    → IsNotBusy (element_step (element_op.Close m) x).1
close_idle x u p g m h idle = grind arith

-- a resume of any generation, where one did
pub resume_parked : (x : ElementState) (u p : Bool) (g m : ℕ) → ElementAgrees x u p g → p ≡ true
    → IsNotBusy (element_step (element_op.Resume m) x).1
resume_parked x u p g m h parked = grind arith

-- an element that is in use
used_at_rest : (x : ElementState) (u p : Bool) (g : ℕ) → ElementAgrees x u p g → u ≡ true → p ≡ false → IsUnpaused x.phase
used_at_rest x u p g h used idle = grind arith

-- an element in use whose owner is at rest is not paused with
pub element_at_rest : (c : Setup) (es : List Entry) (n : ℕ) → Legal c es → IsAtRest (of (element_owner c n) es)
    → (kept_of (element_owner c n) (of (element_owner c n) es)).in_use n ≡ true → IsUnpaused ((after c es).element n).state.phase
element_at_rest c es n l rest used = used_at_rest ((after c es).element n).state _ _ _
    (element_agrees c n (element_owner c n) refl es l) used (rest.parked n)
