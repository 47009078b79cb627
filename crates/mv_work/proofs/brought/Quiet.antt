-- Calls that neither pause nor resume: what they say of elements gives no code.
use Rattle.std.proofs.Common.{ℕ, zero, suc, false, List, [], ◌∷◌, length, Option, Some, None}
use Rattle.std.proofs.Common.{Result}
use Rattle.mv_ecb.specs.declared.operation.EcbReply.{EcbReply}
use Rattle.mv_ecb.specs.declared.operation.EcbReply.TheVariants as ecb_reply
use Rattle.mv_element.specs.declared.element.Token.{Token}
use Rattle.mv_element.specs.declared.operation.ElementReply.TheVariants as element_reply
use Rattle.mv_latch.specs.declared.operation.LatchReply.TheVariants as latch_reply
use Rattle.mv_latch.specs.declared.operation.Wake.{Wake}
use Rattle.mv_latch.specs.declared.request.LatchForm.TheVariants.{Waiting}
use Rattle.mv_latch.specs.declared.request.Mode.{Mode}
use Rattle.mv_element.specs.declared.operation.ElementOp.TheVariants as element_op
use Rattle.mv_latch.specs.declared.operation.LatchOp.TheVariants as latch_op
use Rattle.mv_machine.specs.declared.entry.Object.TheVariants.{Element, Latches}
use Rattle.mv_machine.specs.declared.entry.Op.TheVariants as op_on
use Rattle.mv_calls.specs.Refusal as refusal
use Rattle.mv_calls.specs.Waits.{refused_if}
use Rattle.mv_machine.specs.declared.entry.Reply.{Reply}
use Rattle.mv_machine.specs.declared.entry.Reply.TheVariants as reply_of
use Rattle.mv_machine.specs.declared.entry.VolumeReply.TheVariants as volume_reply
use Rattle.mv_config.specs.Setup.{Setup}
use Rattle.mv_calls.specs.Endings.{end_of_job}
use Rattle.mv_calls.specs.Keeping.{Kept}
use Rattle.mv_calls.specs.LatchCalls.{Requested, obtain, obtain_refusal, obtained, confirmed, release_latch, let_go, purge, purged}
use Rattle.mv_calls.specs.Pauses.{allocate, open_lowest, lowest_free, opened, deallocate, closed, is_others_token}
use Rattle.mv_calls.specs.declared.outcomes.PostAnswer.{PostAnswer}
use Rattle.mv_calls.specs.declared.outcomes.PostAnswer.TheVariants.{Posted, Woke, Already}
use Rattle.mv_calls.specs.Posts.{posting, posted_next, each_posted, post_within, post, wake_posted}
use Rattle.mv_calls.specs.Posts.{wakes_posted}
use Rattle.mv_calls.specs.Program.{Program, Do, Done, Early, Wrong, Heard, on_ecb, on_element, on_volume, on_latch}
use Rattle.mv_calls.specs.Program.{and_then, unless_refused}
use Rattle.mv_calls.specs.Refusal.{Refusal}
use Rattle.mv_calls.specs.Waits.{write_volume, stored}
use Rattle.mv_plan.proofs.points.Asks.{IsNoPause}

-- no event that a program says is a pause or its return
abbrev pub Quiet : {A : Type 0} → Program A → Type 0
Quiet (Do o op next) = IsNoPause o op × ((h : Heard) → Quiet (next h))
Quiet (Done a) = Unit {0}
Quiet Early = Unit {0}
Quiet Wrong = Unit {0}

-- ---- programs one after the other

quiet_and_then : {A B : Type 0} (p : Program A) (f : A → Program B) → Quiet p → ((a : A) → Quiet (f a)) → Quiet (and_then p f)
quiet_and_then (Do o op next) f q each = (q.0, λ h. quiet_and_then (next h) f (q.1 h) each)
quiet_and_then (Done a) f q each = each a
quiet_and_then Early f q each = tt
quiet_and_then Wrong f q each = tt

quiet_unless : {A : Type 0} (why : Option Refusal) (p : Program (Result A Refusal)) → Quiet p → Quiet (unless_refused why p)
quiet_unless None p q = q
quiet_unless (Some why) p q = tt

-- ---- posts

each_quiet : (post : ℕ → Program PostAnswer) (es : List ℕ) (answer : PostAnswer) → ((e : ℕ) → Quiet (post e))
    → Quiet (each_posted post es answer)
each_quiet post [] answer each = tt
each_quiet post (e ∷ es) answer each = quiet_and_then (post e) (λ p. each_posted post es answer) (each e)
    (λ p. each_quiet post es answer each)

by_posting : (f : EcbReply → PostAnswer → Program PostAnswer) → ((x : EcbReply) (a : PostAnswer) → Quiet (f x a)) → (r : Reply)
    → Quiet (on_ecb r (λ x. posting (f x) x))
by_posting f each (reply_of.Ecb ecb_reply.Posted) = each ecb_reply.Posted Posted
by_posting f each (reply_of.Ecb (ecb_reply.Woke x)) = each (ecb_reply.Woke x) Woke
by_posting f each (reply_of.Ecb (ecb_reply.Already code)) = each (ecb_reply.Already code) (Already code)
by_posting f each r = tt

within_quiet : (depth : ℕ) (c : Setup) (code e : ℕ) → Quiet (post_within depth c code e)
within_quiet zero c code e = tt
within_quiet (suc depth) c code e = (
  tt,
  λ h. by_posting (λ x a. each_posted (post_within depth c code) (posted_next c x) a)
      (λ x a. each_quiet (post_within depth c code) (posted_next c x) a (λ e. within_quiet depth c code e)) h.entry.reply,
)

pub post_quiet : (c : Setup) (e code : ℕ) (kept : Kept) → Quiet (post c e code kept)
post_quiet c e code kept = within_quiet (length c.owners) c code e

wake_quiet : {A : Type 0} (c : Setup) (slot : Option ℕ) (code : ℕ) (kept : Kept) (last : Program A) → Quiet last
    → Quiet (wake_posted c slot code kept last)
wake_quiet c None code kept last q = q
wake_quiet c (Some e) code kept last q = quiet_and_then (post c e code kept) (λ p. last) (post_quiet c e code kept) (λ p. q)

wakes_quiet : {A : Type 0} (c : Setup) (ws : List Wake) (kept : Kept) (last : Program A) → Quiet last
    → Quiet (wakes_posted c ws kept last)
wakes_quiet c [] kept last q = q
wakes_quiet c (w ∷ ws) kept last q = wake_quiet c w.ecb w.code kept _ (wakes_quiet c ws kept last q)

-- ---- elements

pub allocate_quiet : (c : Setup) (kept : Kept) → Quiet (allocate c kept)
allocate_quiet c kept = go (lowest_free c kept) where
  by_reply : (n : ℕ) (r : Reply) → Quiet (on_element r (opened n))
  by_reply n (reply_of.Element (element_reply.Opened g)) = tt
  by_reply n r = tt

  go : (slot : Option ℕ) → Quiet (open_lowest slot)
  go None = tt
  go (Some n) = (tt, λ h. by_reply n h.entry.reply)

pub deallocate_quiet : (c : Setup) (t : Token) (kept : Kept) → Quiet (deallocate c t kept)
deallocate_quiet c t kept =
    let p : Program (Result (Unit {0}) Refusal) =
    Do (Element t.element) (op_on.Element (element_op.Close t.generation)) (λ h. on_element h.entry.reply closed) in
    let q : Quiet p = (tt, λ h. by_reply h.entry.reply) in
    quiet_unless (refused_if (is_others_token c kept t) refusal.NotOwner) p q where
      by_reply : (r : Reply) → Quiet (on_element r closed)
      by_reply (reply_of.Element element_reply.Closed) = tt
      by_reply (reply_of.Element (element_reply.Spent g)) = tt
      by_reply r = tt

-- ---- volumes

pub write_quiet : (v n : ℕ) (kept : Kept) → Quiet (write_volume v n kept)
write_quiet v n kept = (tt, λ h. by_reply h.entry.reply) where
  by_reply : (r : Reply) → Quiet (on_volume r stored)
  by_reply (reply_of.Volume volume_reply.Stored) = tt
  by_reply r = tt

-- ---- latches

confirmed_quiet : (id : ℕ) (r : Reply) → Quiet (on_latch r (confirmed id))
confirmed_quiet id (reply_of.Latch (latch_reply.Granted same)) = tt
confirmed_quiet id (reply_of.Latch latch_reply.Waiting) = tt
confirmed_quiet id (reply_of.Latch latch_reply.Gone) = tt
confirmed_quiet id r = tt

pub obtain_quiet : (c : Setup) (latch requestor : ℕ) (mode : Mode) (kept : Kept) → Quiet (obtain c latch requestor mode Waiting kept)
obtain_quiet c latch requestor mode kept =
    let p : Program (Result Requested Refusal) =
    Do Latches (op_on.Latch (latch_op.Obtain latch requestor mode Waiting)) (λ h. on_latch h.entry.reply (obtained latch Waiting)) in
    let q : Quiet p = (tt, λ h. by_reply h.entry.reply) in
    quiet_unless (obtain_refusal c latch requestor mode Waiting kept) p q where
      by_reply : (r : Reply) → Quiet (on_latch r (obtained latch Waiting))
      by_reply (reply_of.Latch (latch_reply.Granted id)) = tt
      by_reply (reply_of.Latch (latch_reply.Queued id)) = (tt, λ h. confirmed_quiet id h.entry.reply)
      by_reply r = tt

pub release_quiet : (c : Setup) (latch id : ℕ) (kept : Kept) → Quiet (release_latch c latch id false kept)
release_quiet c latch id kept = (tt, λ h. by_reply h.wakes h.entry.reply) where
  by_reply : (ws : List Wake) (r : Reply) → Quiet (on_latch r (let_go c false ws kept))
  by_reply ws (reply_of.Latch (latch_reply.Released granted)) = wakes_quiet c ws kept _ tt
  by_reply ws (reply_of.Latch latch_reply.Gone) = tt
  by_reply ws r = tt

purge_quiet : (c : Setup) (requestor : ℕ) (kept : Kept) → Quiet (purge c requestor kept)
purge_quiet c requestor kept = (tt, λ h. by_reply h.wakes h.entry.reply) where
  by_reply : (ws : List Wake) (r : Reply) → Quiet (on_latch r (purged c ws kept))
  by_reply ws (reply_of.Latch (latch_reply.Purged removed granted)) = wakes_quiet c ws kept _ tt
  by_reply ws r = tt

pub end_quiet : (c : Setup) (requestor e code : ℕ) (kept : Kept) → Quiet (end_of_job c requestor e code kept)
end_quiet c requestor e code kept = quiet_and_then (purge c requestor kept) _ (purge_quiet c requestor kept)
    (λ counts. wake_quiet c (Some e) code kept (Done counts) tt)
