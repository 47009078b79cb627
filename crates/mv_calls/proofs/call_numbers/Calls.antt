-- Each call keeps the group behind its first event.
use Rattle.std.proofs.Common.{◌≡◌, ℕ, Bool, true, List, [], ◌∷◌, ◌++◌, length, Option, Some, None, Result, Ok}
use Rattle.std.proofs.Common.{refl, ap, ◌∙◌}
use Rattle.mv_ecb.specs.declared.operation.EcbOp.TheVariants as ecb_op
use Rattle.mv_element.specs.declared.element.Token.{Token}
use Rattle.mv_element.specs.declared.operation.ElementOp.TheVariants as element_op
use Rattle.mv_element.specs.declared.operation.ElementReply.TheVariants as element_reply
use Rattle.mv_latch.specs.declared.operation.LatchOp.TheVariants as latch_op
use Rattle.mv_latch.specs.declared.operation.LatchReply.TheVariants as latch_reply
use Rattle.mv_latch.specs.declared.operation.Wake.{Wake}
use Rattle.mv_latch.specs.declared.request.LatchForm.{LatchForm}
use Rattle.mv_latch.specs.declared.request.LatchForm.TheVariants as form_of
use Rattle.mv_latch.specs.declared.request.Mode.{Mode}
use Rattle.mv_machine.specs.declared.entry.Object.{Object}
use Rattle.mv_machine.specs.declared.entry.Object.TheVariants.{Ecb, Element, Latches}
use Rattle.mv_machine.specs.declared.entry.Op.{Op}
use Rattle.mv_machine.specs.declared.entry.Op.TheVariants as op_on
use Rattle.mv_machine.specs.declared.entry.Reply.{Reply}
use Rattle.mv_machine.specs.declared.entry.Reply.TheVariants as reply_of
use Rattle.mv_config.specs.Setup.{Setup}
use Rattle.mv_calls.specs.Keeping.{Kept}
use Rattle.mv_calls.specs.LatchCalls as latches
use Rattle.mv_calls.specs.Pauses as pauses
use Rattle.mv_calls.specs.Program.{Program, Do, Done, Early, Wrong, Heard, on_element, on_latch, unless_refused}
use Rattle.mv_calls.specs.Refusal.{Refusal, NotOwner}
use Rattle.mv_calls.specs.Waits as waits
use Rattle.mv_calls.proofs.Replies.{HasNoEvent, HasOneEvent, no_event, by_arm, by_settle, by_pause, gave_ends, enough_ends, confirmed_ends}
use Rattle.mv_calls.proofs.Replies.{try_post_once, clear_once, extend_once, test_ecb_once, read_volume_once, write_volume_once}
use Rattle.mv_calls.proofs.Replies.{allocate_once, release_once, try_release_once, deallocate_once, test_element_once, check_latch_once}
use Rattle.mv_calls.proofs.Replies.{obtain_once}
use Rattle.mv_calls.proofs.call_numbers.Stays.{event, then_numbered, StaysTo, Anything, stays_then, group_kept, Begins, begins_post}
use Rattle.mv_calls.proofs.call_numbers.Stays.{wakes_stay}
use Rattle.mv_calls.specs.Numbers.{Numbering, continues, group_after, is_armed, is_accepted, kept_pending}
use Rattle.mv_calls.specs.Services.{Service, program, Wait, Post, TryPost, Clear, Extend, TestEcb, ReadVolume, WriteVolume}
use Rattle.mv_calls.specs.Services.{Allocate, Pause, Release, TryRelease, Transfer, Deallocate, TestElement, Obtain, CheckLatch}
use Rattle.mv_calls.specs.Services.{ReleaseLatch, Purge, EndOfJob, EndOfTask, PostEvent, NextEvent}
use Rattle.mv_calls.specs.OneCall.{IsSingle}
use Rattle.mv_calls.specs.declared.outcomes.WaitSlot.{WaitSlot}

-- a program without event keeps it
ends_stay : {A : Type 0} (c : Setup) (u : Numbering) (p : Program A) → HasNoEvent p → StaysTo c Anything u p
ends_stay c u (Do o op next) none = absurd none
ends_stay c u (Done a) none = tt
ends_stay c u Early none = tt
ends_stay c u Wrong none = tt

-- so a call of one event is one group
begins_once : {A : Type 0} (c : Setup) (p : Program A) → HasOneEvent p → Begins c p
begins_once c (Do o op next) once = λ t k place reply ws. ends_stay c _ (next (event k o place op reply ws))
    (once.behind (event k o place op reply ws))
begins_once c (Done a) once = tt
begins_once c Early once = tt
begins_once c Wrong once = tt

-- and keeps it, where its event does
once_stays : {A : Type 0} (c : Setup) (t : Numbering) (o : Object) (op : Op) (next : Heard → Program A)
    → continues t o op ≡ true → HasOneEvent (Do o op next) → StaysTo c Anything t (Do o op next)
once_stays c t o op next on once = λ k place reply ws. (
  ap (λ b. group_after t.last t.group b) on ∙ group_kept t.last t.group,
  ends_stay c _ (next (event k o place op reply ws)) (once.behind (event k o place op reply ws)),
)

-- ---- refusals come before the first event

-- what is not refused begins with its first event, and what is refused has none
not_refused : {A : Type 0} (c : Setup) (why : Option Refusal) (p : Program (Result A Refusal)) → Begins c p
    → Begins c (unless_refused why p)
not_refused c None p b = b
not_refused c (Some why) p b = tt

-- ---- waits: behind an arm an arm continues, and a settle always does

-- the settles of a wait
settles_stay : {A : Type 0} (c : Setup) (es : List ℕ) (found : List WaitSlot) (f : List WaitSlot → Program A) (t : Numbering)
    → ((u : Numbering) (slots : List WaitSlot) → StaysTo c Anything u (f slots)) → StaysTo c Anything t (waits.settle_all es found f)
settles_stay c [] found f t g = g t found
settles_stay c (e ∷ es) found f t g = λ k place reply ws. (
  group_kept t.last t.group,
  by_settle (StaysTo c Anything (then_numbered c t (event k (Ecb e) place (op_on.Ecb ecb_op.Settle) reply ws))) (ends_stay c _)
      (λ slot. waits.settle_all es (found ++ slot ∷ []) f) (λ slot. settles_stay c es (found ++ slot ∷ []) f _ g) reply,
)

-- the arms of a wait behind its first
arms_stay : {A : Type 0} (c : Setup) (es : List ℕ) (p : Program A) (t : Numbering) → is_armed t.last ≡ true
    → ((u : Numbering) → StaysTo c Anything u p) → StaysTo c Anything t (waits.arm_all es p)
arms_stay c [] p t a g = g t
arms_stay c (e ∷ es) p t a g = λ k place reply ws. (
  ap (λ b. group_after t.last t.group b) a ∙ group_kept t.last t.group,
  by_arm (StaysTo c Anything (then_numbered c t (event k (Ecb e) place (op_on.Ecb ecb_op.Arm) reply ws))) (ends_stay c _)
      (waits.arm_all es p) (arms_stay c es p _ refl g) reply,
)

-- a wait begins with its first arm
begins_arms : {A : Type 0} (c : Setup) (es : List ℕ) (p : Program A) → Begins c p → ((u : Numbering) → StaysTo c Anything u p)
    → Begins c (waits.arm_all es p)
begins_arms c [] p b g = b
begins_arms c (e ∷ es) p b g = λ t k place reply ws.
    by_arm (StaysTo c Anything (then_numbered c t (event k (Ecb e) place (op_on.Ecb ecb_op.Arm) reply ws))) (ends_stay c _)
    (waits.arm_all es p) (arms_stay c es p _ refl g) reply

-- or has no block to arm, and then it has no event at all
begins_settles : (c : Setup) (count : ℕ) (es : List ℕ) →
    ((u : Numbering) → StaysTo c Anything u (waits.settle_all es [] (waits.enough count)))
    → Begins c (waits.settle_all es [] (waits.enough count))
begins_settles c count [] s = begins_once c (waits.enough count []) (no_event (waits.enough count []) (enough_ends count []))
begins_settles c count (e ∷ es) s = λ t k place reply ws. (s t k place reply ws).1

-- so a wait is one group
begins_wait : (c : Setup) (count : ℕ) (es : List ℕ) (kept : Kept) → Begins c (waits.wait c count es kept)
begins_wait c count es kept = not_refused c (waits.wait_refusal c count es kept)
    (waits.arm_all es (waits.settle_all es [] (waits.enough count)))
    (begins_arms c es (waits.settle_all es [] (waits.enough count)) (begins_settles c count es settles) settles) where
      settles : (u : Numbering) → StaysTo c Anything u (waits.settle_all es [] (waits.enough count))
      settles u = settles_stay c es [] (waits.enough count) u
          (λ v slots. ends_stay c v (waits.enough count slots) (enough_ends count slots))

-- ---- pauses: behind an accepted release a pause continues, and a resume always does

-- behind a pause, a resume
paused_stays : (c : Setup) (t : Numbering) (n g : ℕ) (r : Reply) → StaysTo c Anything t (on_element r (pauses.paused n g))
paused_stays c t n g r = by_pause (StaysTo c Anything t) (ends_stay c t) n g
    (λ once. once_stays c t (Element n) (op_on.Element (element_op.Resume g)) _ refl once) r

-- so a pause is one group
begins_pause : (c : Setup) (token : Token) (kept : Kept) → Begins c (pauses.pause c token kept)
begins_pause c token kept = not_refused c (waits.refused_if (pauses.is_others_token c kept token) NotOwner)
    (Do (Element token.element) (op_on.Element (element_op.Pause token.generation))
    (λ h. on_element h.entry.reply (pauses.paused token.element token.generation)))
    (λ t k place reply ws. paused_stays c _ token.element token.generation reply)

-- behind an accepted release, which is the last entry, a pause continues
accepted_pauses : (c : Setup) (token : Token) (kept : Kept) (t : Numbering) → is_accepted t.last ≡ true
    → StaysTo c Anything t (pauses.pause c token kept)
accepted_pauses c token kept t a = unless (waits.refused_if (pauses.is_others_token c kept token) NotOwner) where
  first : StaysTo c Anything t (Do (Element token.element) (op_on.Element (element_op.Pause token.generation))
      (λ h. on_element h.entry.reply (pauses.paused token.element token.generation)))
  first = λ k place reply ws. (
    ap (λ b. group_after t.last t.group b) a ∙ group_kept t.last t.group,
    paused_stays c _ token.element token.generation reply,
  )

  unless : (why : Option Refusal) → StaysTo c Anything t
      (unless_refused why (Do (Element token.element) (op_on.Element (element_op.Pause token.generation))
      (λ h. on_element h.entry.reply (pauses.paused token.element token.generation))))
  unless None = first
  unless (Some why) = tt

-- and so does that of a transfer, if it has one
current_stays : (c : Setup) (current : Option Token) (kept : Kept) (t : Numbering) → is_accepted t.last ≡ true
    → StaysTo c Anything t (pauses.pause_current c current kept)
current_stays c None kept t a = tt
current_stays c (Some token) kept t a = stays_then c Anything Anything t (pauses.pause c token kept) pauses.gave
    (accepted_pauses c token kept t a) (λ u answer q. ends_stay c u (pauses.gave answer) (gave_ends answer))

-- behind the release of a transfer
transferred_stays : (c : Setup) (current : Option Token) (kept : Kept) (n g code k place : ℕ) (ws : List Wake) (t : Numbering)
    (r : Reply) → StaysTo c Anything (then_numbered c t (event k (Element n) place (op_on.Element (element_op.Release g code)) r ws))
    (on_element r (pauses.transferred c current kept))
transferred_stays c current kept n g code k place ws t (reply_of.Element element_reply.Early) = current_stays c current kept _ refl
transferred_stays c current kept n g code k place ws t (reply_of.Element element_reply.Woke) = current_stays c current kept _ refl
transferred_stays c current kept n g code k place ws t r = tt

-- so a transfer is one group
begins_transfer : (c : Setup) (current : Option Token) (target : Token) (code : ℕ) (kept : Kept)
    → Begins c (pauses.transfer c current target code kept)
begins_transfer c current target code kept = not_refused c (pauses.transfer_refusal c current kept)
    (Do (Element target.element) (op_on.Element (element_op.Release target.generation code))
    (λ h. on_element h.entry.reply (pauses.transferred c current kept)))
    (λ t k place reply ws. transferred_stays c current kept target.element target.generation code k place ws t reply)

-- ---- latches: behind a queued obtain of the Waiting form a confirm continues

-- behind an obtain of that form
waiting_stays : (c : Setup) (latch requestor : ℕ) (mode : Mode) (k place : ℕ) (ws : List Wake) (t : Numbering) (r : Reply)
    → StaysTo c Anything (then_numbered c t
    (event k Latches place (op_on.Latch (latch_op.Obtain latch requestor mode form_of.Waiting)) r ws))
    (on_latch r (latches.obtained latch form_of.Waiting))
waiting_stays c latch requestor mode k place ws t (reply_of.Latch (latch_reply.Queued id)) =
    once_stays c (then_numbered c t (event k Latches place (op_on.Latch (latch_op.Obtain latch requestor mode form_of.Waiting))
    (reply_of.Latch (latch_reply.Queued id)) ws)) Latches (op_on.Latch (latch_op.Confirm latch id))
    (λ h. on_latch h.entry.reply (latches.confirmed id)) refl (record { behind = λ h. confirmed_ends id h.entry.reply })
waiting_stays c latch requestor mode k place ws t (reply_of.Latch (latch_reply.Granted id)) = tt
waiting_stays c latch requestor mode k place ws t r = tt

-- so an obtain is one group
begins_obtain : (c : Setup) (latch requestor : ℕ) (mode : Mode) (form : LatchForm) (kept : Kept)
    → Begins c (latches.obtain c latch requestor mode form kept)
begins_obtain c latch requestor mode form_of.Waiting kept =
    not_refused c (latches.obtain_refusal c latch requestor mode form_of.Waiting kept)
    (Do Latches (op_on.Latch (latch_op.Obtain latch requestor mode form_of.Waiting))
    (λ h. on_latch h.entry.reply (latches.obtained latch form_of.Waiting)))
    (λ t k place reply ws. waiting_stays c latch requestor mode k place ws t reply)
begins_obtain c latch requestor mode form_of.Conditional kept =
    begins_once c _ (obtain_once c latch requestor mode form_of.Conditional kept (λ e. cc e))
begins_obtain c latch requestor mode (form_of.Posted block) kept =
    begins_once c _ (obtain_once c latch requestor mode (form_of.Posted block) kept (λ e. cc e))

-- behind a release of a latch its posts
let_go_stays : (c : Setup) (latch id : ℕ) (kept : Kept) (k place : ℕ) (ws : List Wake) (t : Numbering) (conditional : Bool)
    (r : Reply) → StaysTo c Anything (then_numbered c t
    (event k Latches place (op_on.Latch (latch_op.Release latch id conditional)) r ws))
    (on_latch r (latches.let_go c conditional ws kept))
let_go_stays c latch id kept k place ws t conditional (reply_of.Latch (latch_reply.Released n)) = wakes_stay c Anything ws kept
    (kept_pending t.pending Latches (op_on.Latch (latch_op.Release latch id conditional))) (Done (Ok n)) _ refl (λ u q. tt)
let_go_stays c latch id kept k place ws t true (reply_of.Latch latch_reply.Waiting) = tt
let_go_stays c latch id kept k place ws t conditional r = tt

-- so it is one group
begins_release_latch : (c : Setup) (latch id : ℕ) (conditional : Bool) (kept : Kept)
    → Begins c (latches.release_latch c latch id conditional kept)
begins_release_latch c latch id conditional kept = λ t k place reply ws. let_go_stays c latch id kept k place ws t conditional reply

-- and behind a purge
purged_stays : (c : Setup) (requestor : ℕ) (kept : Kept) (k place : ℕ) (ws : List Wake) (t : Numbering) (r : Reply)
    → StaysTo c Anything (then_numbered c t (event k Latches place (op_on.Latch (latch_op.Purge requestor)) r ws))
    (on_latch r (latches.purged c ws kept))
purged_stays c requestor kept k place ws t (reply_of.Latch (latch_reply.Purged m n)) = wakes_stay c Anything ws kept
    (kept_pending t.pending Latches (op_on.Latch (latch_op.Purge requestor))) (Done (record { removed = m; granted = n })) _ refl
    (λ u q. tt)
purged_stays c requestor kept k place ws t r = tt

-- so is that
begins_purge : (c : Setup) (requestor : ℕ) (kept : Kept) → Begins c (latches.purge c requestor kept)
begins_purge c requestor kept = λ t k place reply ws. purged_stays c requestor kept k place ws t reply

-- ---- all calls

-- whatever the call and what its task keeps
pub begins : (c : Setup) (s : Service) (kept : Kept) → IsSingle s → Begins c (program c s kept)
begins c (Wait count blocks) kept single = begins_wait c count blocks kept
begins c (Post block code) kept single = begins_post c (length c.owners) code block
begins c (TryPost block expected code) kept single = begins_once c _ (try_post_once block expected code kept)
begins c (Clear block) kept single = begins_once c _ (clear_once c block kept)
begins c (Extend block exit) kept single = begins_once c _ (extend_once c block exit kept)
begins c (TestEcb block) kept single = begins_once c _ (test_ecb_once block kept)
begins c (ReadVolume volume) kept single = begins_once c _ (read_volume_once volume kept)
begins c (WriteVolume volume number) kept single = begins_once c _ (write_volume_once volume number kept)
begins c Allocate kept single = begins_once c _ (allocate_once c kept)
begins c (Pause token) kept single = begins_pause c token kept
begins c (Release token code) kept single = begins_once c _ (release_once token code kept)
begins c (TryRelease token expected code) kept single = begins_once c _ (try_release_once token expected code kept)
begins c (Transfer current target code) kept single = begins_transfer c current target code kept
begins c (Deallocate token) kept single = begins_once c _ (deallocate_once c token kept)
begins c (TestElement element) kept single = begins_once c _ (test_element_once element kept)
begins c (Obtain latch requestor mode form) kept single = begins_obtain c latch requestor mode form kept
begins c (CheckLatch latch id) kept single = begins_once c _ (check_latch_once latch id kept)
begins c (ReleaseLatch latch id conditional) kept single = begins_release_latch c latch id conditional kept
begins c (Purge requestor) kept single = begins_purge c requestor kept
begins c (EndOfJob requestor block code) kept single = absurd single
begins c (EndOfTask requestor mother code) kept single = absurd single
begins c (PostEvent table index code) kept single = absurd single
begins c (NextEvent table position) kept single = absurd single
