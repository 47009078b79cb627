-- What holds of a program whatever is replied: of one that has no event left it holds at once, and behind an event it holds where it
-- holds behind the replies that are foreseen. And the calls that have one event.
use Rattle.std.proofs.Common.{◌≡◌, ℕ, nat_le, Bool, true, false, if◌then◌else◌, Option, Some, None, Result, Ok, List, refl}
use Rattle.mv_ecb.specs.declared.operation.EcbOp.TheVariants as ecb_op
use Rattle.mv_ecb.specs.declared.operation.EcbReply.TheVariants as ecb_reply
use Rattle.mv_element.specs.declared.element.Token.{Token}
use Rattle.mv_element.specs.declared.operation.ElementOp.TheVariants as element_op
use Rattle.mv_element.specs.declared.operation.ElementReply.TheVariants as element_reply
use Rattle.mv_latch.specs.declared.operation.LatchOp.TheVariants as latch_op
use Rattle.mv_latch.specs.declared.operation.LatchReply.TheVariants as latch_reply
use Rattle.mv_latch.specs.declared.request.LatchForm.{LatchForm}
use Rattle.mv_latch.specs.declared.request.LatchForm.TheVariants as form_of
use Rattle.mv_latch.specs.declared.request.Mode.{Mode}
use Rattle.mv_machine.specs.declared.entry.Object.TheVariants.{Ecb, Element, Latches}
use Rattle.mv_machine.specs.declared.entry.Op.TheVariants as op_on
use Rattle.mv_machine.specs.declared.entry.Reply.{Reply}
use Rattle.mv_machine.specs.declared.entry.Reply.TheVariants as reply_of
use Rattle.mv_machine.specs.declared.entry.VolumeReply.TheVariants as volume_reply
use Rattle.mv_config.specs.Setup.{Setup}
use Rattle.mv_calls.specs.Endings as endings
use Rattle.mv_calls.specs.Keeping.{Kept}
use Rattle.mv_calls.specs.LatchCalls as latches
use Rattle.mv_calls.specs.Pauses as pauses
use Rattle.mv_calls.specs.declared.outcomes.Given.{Given}
use Rattle.mv_calls.specs.Posts as posts
use Rattle.mv_calls.specs.Program.{Program, Do, Done, Early, Wrong, Heard, heard, on_ecb, on_element, on_volume, on_latch}
use Rattle.mv_calls.specs.Program.{unless_refused}
use Rattle.mv_calls.specs.Refusal.{Refusal, NotOwner}
use Rattle.mv_calls.specs.Waits as waits
use Rattle.mv_calls.specs.declared.outcomes.WaitSlot.{WaitSlot}
use Rattle.mv_calls.specs.declared.outcomes.WaitSlot.TheVariants as wait_slot

-- a program without event: it has its answer, its wait has ended too soon, or nothing foresees it
abbrev pub HasNoEvent : {A : Type 0} → Program A → Type 0
HasNoEvent (Do o op next) = ⊥
HasNoEvent (Done a) = Unit {0}
HasNoEvent Early = Unit {0}
HasNoEvent Wrong = Unit {0}

-- a program whose first event is its last, if it has one
pub record HasOneEvent {A : Type 0} (p : Program A) : Type 0 where
  pub behind : (h : Heard) → HasNoEvent (heard p h)

-- one that has none
pub no_event : {A : Type 0} (p : Program A) → HasNoEvent p → HasOneEvent p
no_event (Do o op next) none = absurd none
no_event (Done a) none = record { behind = λ h. tt }
no_event Early none = record { behind = λ h. tt }
no_event Wrong none = record { behind = λ h. tt }

-- what holds of each program without event
abbrev pub HoldsAtEnds : {A : Type 0} → (Program A → Type 0) → Type 0
HoldsAtEnds {A = A} P = (p : Program A) → HasNoEvent p → P p

-- ---- behind an event, whatever its reply

-- behind an arm
pub by_arm : {A : Type 0} (P : Program A → Type 0) → HoldsAtEnds P → (p : Program A) → P p → (r : Reply) → P (on_ecb r (waits.armed p))
by_arm P ends p rest (reply_of.Ecb ecb_reply.Armed) = rest
by_arm P ends p rest (reply_of.Ecb (ecb_reply.Complete code)) = rest
by_arm P ends p rest r = ends Wrong tt

-- behind a settle
pub by_settle : {A : Type 0} (P : Program A → Type 0) → HoldsAtEnds P → (f : WaitSlot → Program A) → ((slot : WaitSlot) → P (f slot))
    → (r : Reply) → P (on_ecb r (waits.settled f))
by_settle P ends f each (reply_of.Ecb (ecb_reply.Complete code)) = each (wait_slot.Complete code)
by_settle P ends f each (reply_of.Ecb ecb_reply.Open) = each wait_slot.Open
by_settle P ends f each r = ends Wrong tt

-- behind the close of an element of a task that ends
pub by_close : {A : Type 0} (P : Program A → Type 0) → HoldsAtEnds P → (p : Program A) → P p
    → (r : Reply) → P (on_element r (endings.behind_close p))
by_close P ends p rest (reply_of.Element element_reply.Closed) = rest
by_close P ends p rest r = ends Wrong tt

-- a resume is the last event of a pause
resumed_ends : (n : ℕ) (r : Reply) → HasNoEvent (on_element r (pauses.resumed n))
resumed_ends n (reply_of.Element (element_reply.Given code later)) = tt
resumed_ends n (reply_of.Element element_reply.NotYet) = tt
resumed_ends n r = tt

-- behind a pause: the resume, which is the last event, where it parked
pub by_pause : (P : Program (Result Given Refusal) → Type 0) → HoldsAtEnds P → (n g : ℕ)
    → (HasOneEvent (Do (Element n) (op_on.Element (element_op.Resume g)) (λ h. on_element h.entry.reply (pauses.resumed n)))
    → P (Do (Element n) (op_on.Element (element_op.Resume g)) (λ h. on_element h.entry.reply (pauses.resumed n))))
    → (r : Reply) → P (on_element r (pauses.paused n g))
by_pause P ends n g rest (reply_of.Element (element_reply.Given code later)) = ends _ tt
by_pause P ends n g rest (reply_of.Element element_reply.Parked) = rest (record { behind = λ h. resumed_ends n h.entry.reply })
by_pause P ends n g rest (reply_of.Element (element_reply.Spent now)) = ends _ tt
by_pause P ends n g rest r = ends Wrong tt

-- the end of a transfer with a current token
pub gave_ends : (answer : Result Given Refusal) → HasNoEvent (pauses.gave answer)
gave_ends (Ok gift) = tt
gave_ends answer = tt

-- the end of a wait
pub enough_ends : (count : ℕ) (slots : List WaitSlot) → HasNoEvent (waits.enough count slots)
enough_ends count slots = go (nat_le count (waits.complete_count slots)) where
  go : (b : Bool) → HasNoEvent {A = Result (List WaitSlot) Refusal} (if b then Done (Ok slots) else Early)
  go true = tt
  go false = tt

-- the confirm of an obtain
pub confirmed_ends : (id : ℕ) (r : Reply) → HasNoEvent (on_latch r (latches.confirmed id))
confirmed_ends id (reply_of.Latch (latch_reply.Granted same)) = tt
confirmed_ends id (reply_of.Latch latch_reply.Waiting) = tt
confirmed_ends id (reply_of.Latch latch_reply.Gone) = tt
confirmed_ends id r = tt

-- ---- calls of one event

-- a refusal has none
unless_once : {A : Type 0} (why : Option Refusal) (p : Program (Result A Refusal)) → HasOneEvent p → HasOneEvent (unless_refused why p)
unless_once None p once = once
unless_once (Some why) p once = record { behind = λ h. tt }

-- nor has a try whose reply is not the expected one
tried_ends : {A : Type 0} (b : Bool) (p : Program A) → HasNoEvent p → HasNoEvent (if b then p else Wrong)
tried_ends true p ends = ends
tried_ends false p ends = tt

-- a reply that has the word
word_ends : {A : Type 0} (f : ℕ → A) (r : Reply) → HasNoEvent (on_ecb r (waits.the_word (λ w. Done (f w))))
word_ends f (reply_of.Ecb (ecb_reply.Word w)) = tt
word_ends f r = tt

-- a post alone
posted_ends : (r : Reply) → HasNoEvent (on_ecb r (posts.posting (λ p. Done p)))
posted_ends (reply_of.Ecb ecb_reply.Posted) = tt
posted_ends (reply_of.Ecb (ecb_reply.Woke x)) = tt
posted_ends (reply_of.Ecb (ecb_reply.Already code)) = tt
posted_ends r = tt

-- a release of an element
released_ends : (r : Reply) → HasNoEvent (on_element r pauses.released)
released_ends (reply_of.Element element_reply.Early) = tt
released_ends (reply_of.Element element_reply.Woke) = tt
released_ends (reply_of.Element (element_reply.Spent g)) = tt
released_ends (reply_of.Element element_reply.Already) = tt
released_ends r = tt

-- a try of a post
pub try_post_once : (block expected code : ℕ) (kept : Kept) → HasOneEvent (posts.try_post block expected code kept)
try_post_once block expected code kept = record { behind = λ h. tried_ends _ _ (posted_ends h.entry.reply) }

-- a clear
pub clear_once : (c : Setup) (block : ℕ) (kept : Kept) → HasOneEvent (waits.clear c block kept)
clear_once c block kept = unless_once (waits.refused_if (waits.is_others_block c kept block) NotOwner)
    (Do (Ecb block) (op_on.Ecb ecb_op.Clear) (λ h. on_ecb h.entry.reply (waits.the_word (λ w. Done (Ok w)))))
    (record { behind = λ h. word_ends {A = Result ℕ Refusal} (λ w. Ok w) h.entry.reply })

-- an extend
pub extend_once : (c : Setup) (block exit : ℕ) (kept : Kept) → HasOneEvent (waits.extend c block exit kept)
extend_once c block exit kept = unless_once (waits.extend_refusal c block exit kept)
    (Do (Ecb block) (op_on.Ecb (ecb_op.Extend exit)) (λ h. on_ecb h.entry.reply waits.extended))
    (record { behind = λ h. by_reply h.entry.reply }) where
      by_reply : (r : Reply) → HasNoEvent (on_ecb r waits.extended)
      by_reply (reply_of.Ecb ecb_reply.Armed) = tt
      by_reply (reply_of.Ecb (ecb_reply.Complete code)) = tt
      by_reply r = tt

-- a test of a block
pub test_ecb_once : (block : ℕ) (kept : Kept) → HasOneEvent (waits.test_ecb block kept)
test_ecb_once block kept = record { behind = λ h. word_ends (λ w. w) h.entry.reply }

-- a read of a volume
pub read_volume_once : (volume : ℕ) (kept : Kept) → HasOneEvent (waits.read_volume volume kept)
read_volume_once volume kept = record { behind = λ h. by_reply h.entry.reply } where
  by_reply : (r : Reply) → HasNoEvent (on_volume r waits.the_value)
  by_reply (reply_of.Volume (volume_reply.Value n)) = tt
  by_reply r = tt

-- a write of one
pub write_volume_once : (volume number : ℕ) (kept : Kept) → HasOneEvent (waits.write_volume volume number kept)
write_volume_once volume number kept = record { behind = λ h. by_reply h.entry.reply } where
  by_reply : (r : Reply) → HasNoEvent (on_volume r waits.stored)
  by_reply (reply_of.Volume volume_reply.Stored) = tt
  by_reply r = tt

-- an allocate
pub allocate_once : (c : Setup) (kept : Kept) → HasOneEvent (pauses.allocate c kept)
allocate_once c kept = found (pauses.lowest_free c kept) where
  by_reply : (n : ℕ) (r : Reply) → HasNoEvent (on_element r (pauses.opened n))
  by_reply n (reply_of.Element (element_reply.Opened g)) = tt
  by_reply n r = tt

  found : (free : Option ℕ) → HasOneEvent (pauses.open_lowest free)
  found None = record { behind = λ h. tt }
  found (Some n) = record { behind = λ h. by_reply n h.entry.reply }

-- a release
pub release_once : (token : Token) (code : ℕ) (kept : Kept) → HasOneEvent (pauses.release token code kept)
release_once token code kept = record { behind = λ h. released_ends h.entry.reply }

-- a try of one
pub try_release_once : (token : Token) (expected code : ℕ) (kept : Kept) → HasOneEvent (pauses.try_release token expected code kept)
try_release_once token expected code kept = record { behind = λ h. tried_ends _ _ (released_ends h.entry.reply) }

-- a deallocate
pub deallocate_once : (c : Setup) (token : Token) (kept : Kept) → HasOneEvent (pauses.deallocate c token kept)
deallocate_once c token kept = unless_once (waits.refused_if (pauses.is_others_token c kept token) NotOwner)
    (Do (Element token.element) (op_on.Element (element_op.Close token.generation)) (λ h. on_element h.entry.reply pauses.closed))
    (record { behind = λ h. by_reply h.entry.reply }) where
      by_reply : (r : Reply) → HasNoEvent (on_element r pauses.closed)
      by_reply (reply_of.Element element_reply.Closed) = tt
      by_reply (reply_of.Element (element_reply.Spent g)) = tt
      by_reply r = tt

-- a test of an element
pub test_element_once : (element : ℕ) (kept : Kept) → HasOneEvent (pauses.test_element element kept)
test_element_once element kept = record { behind = λ h. by_reply h.entry.reply } where
  by_reply : (r : Reply) → HasNoEvent (on_element r pauses.the_state)
  by_reply (reply_of.Element (element_reply.State s)) = tt
  by_reply r = tt

-- a check of a request
pub check_latch_once : (latch id : ℕ) (kept : Kept) → HasOneEvent (latches.check_latch latch id kept)
check_latch_once latch id kept = record { behind = λ h. by_reply h.entry.reply } where
  by_reply : (r : Reply) → HasNoEvent (on_latch r latches.checked)
  by_reply (reply_of.Latch (latch_reply.Granted same)) = tt
  by_reply (reply_of.Latch latch_reply.Waiting) = tt
  by_reply (reply_of.Latch latch_reply.Gone) = tt
  by_reply r = tt

-- an obtain that does not wait
pub obtain_once : (c : Setup) (latch requestor : ℕ) (mode : Mode) (form : LatchForm) (kept : Kept) → (form ≡ form_of.Waiting → ⊥)
    → HasOneEvent (latches.obtain c latch requestor mode form kept)
obtain_once c latch requestor mode form kept other = unless_once (latches.obtain_refusal c latch requestor mode form kept)
    (Do Latches (op_on.Latch (latch_op.Obtain latch requestor mode form)) (λ h. on_latch h.entry.reply (latches.obtained latch form)))
    (record { behind = λ h. by_reply form h.entry.reply other }) where
      by_reply : (f : LatchForm) (r : Reply) → (f ≡ form_of.Waiting → ⊥) → HasNoEvent (on_latch r (latches.obtained latch f))
      by_reply form_of.Waiting r differs = absurd (differs refl)
      by_reply (form_of.Posted e) (reply_of.Latch (latch_reply.Queued id)) differs = tt
      by_reply form_of.Conditional (reply_of.Latch (latch_reply.NotNow id)) differs = tt
      by_reply f (reply_of.Latch (latch_reply.Granted id)) differs = tt
      by_reply f r differs = tt
