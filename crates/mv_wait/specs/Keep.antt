-- What a task keeps in memory, and how that agrees with what it keeps by its log.
use Rattle.std.specs.Prelude.{◌≡◌, ℕ, ◌+◌, ◌<◌, ◌^◌, Bool, true, false, List, length, filter, count_by, Option, Some, None, slice_get}
use Rattle.std.specs.Prelude.{IsSomeAnd, slice_index_or}
use Rattle.slab.specs.Slab.{Slab, get, HasRoomFor}
use Rattle.mv_latch.specs.declared.operation.LatchOp.TheVariants as latch_op
use Rattle.mv_machine.specs.declared.entry.Object.{Object}
use Rattle.mv_machine.specs.declared.entry.Object.TheVariants.{Ecb, Element, Volume, Latches}
use Rattle.mv_machine.specs.Kept.{StandingRequest}
use Rattle.mv_machine.specs.declared.entry.Op.{Op}
use Rattle.mv_machine.specs.declared.entry.Op.TheVariants as op_on
use Rattle.mv_machine.specs.declared.entry.Reply.{Reply}
use Rattle.mv_machine.specs.declared.entry.Reply.TheVariants as reply_of
use Rattle.mv_element.specs.declared.operation.ElementOp.{ElementOp}
use Rattle.mv_element.specs.declared.operation.ElementOp.TheVariants as element_op
use Rattle.mv_element.specs.declared.operation.ElementReply.{ElementReply}
use Rattle.mv_element.specs.declared.operation.ElementReply.TheVariants as element_reply
use Rattle.mv_calls.specs.Keeping.{Kept, generation_after}
use Rattle.mv_wait.specs.declared.keep.Keep.{Keep}
use Rattle.mv_wait.specs.declared.keep.OwnElement.{OwnElement}
use Rattle.mv_wait.specs.declared.keep.HeldRequest.{HeldRequest}

-- if the object is a block, the table has an entry for it
abbrev pub Reaches : Object → Keep → Type 0
Reaches (Ecb n) k = n < length k.extended.items
Reaches o k = Unit {0}

-- the request in a slot, as the log's definitions have it
abbrev pub request_of : HeldRequest → StandingRequest
request_of s = record { latch = s.latch; request = s.request }

-- whether a slot has a request that passes a test
abbrev pub meets : (StandingRequest → Bool) → Option HeldRequest → Bool
meets test None = false
meets test (Some s) = test (request_of s)

-- the slots hold exactly these requests, in any order: for each test, equally many slots and requests pass it
abbrev pub AreHeld : List StandingRequest → List (Option HeldRequest) → Type 0
AreHeld ts slots = (test : StandingRequest → Bool) → count_by (meets test) slots ≡ length (filter test ts)

-- the slot under this key holds a request of this number
abbrev pub HoldsRequest : Slab HeldRequest → ℕ → ℕ → Type 0
HoldsRequest requests id key = IsSomeAnd (get requests key) (λ s. s.request.id ≡ id)

-- for each block of the table, its entry says whether the task holds the block extended
abbrev pub AreExtended : (ℕ → Bool) → Keep → Type 0
AreExtended held k = (n : ℕ) → n < length k.extended.items → slice_index_or k.extended.items n false ≡ held n

-- for each element of the table, its entry says whether the element is in use, and its generation
abbrev pub AreElements : (ℕ → Bool) → (ℕ → ℕ) → Keep → Type 0
AreElements used generation k =
    (i : ℕ) (e : OwnElement) → slice_get k.elements.items i ≡ Some e
    → (e.in_use ≡ used (k.first + i)) × (e.generation ≡ generation (k.first + i))

-- the operation and the reply are of the object's kind
abbrev pub IsOfKind : Object → Op → Reply → Type 0
IsOfKind (Ecb n) (op_on.Ecb op) (reply_of.Ecb r) = Unit {0}
IsOfKind (Element n) (op_on.Element op) (reply_of.Element r) = Unit {0}
IsOfKind (Volume n) (op_on.Volume op) (reply_of.Volume r) = Unit {0}
IsOfKind Latches (op_on.Latch op) (reply_of.Latch r) = Unit {0}
IsOfKind o op r = ⊥

-- if the operation asks for a latch, one more request fits
abbrev pub HasRoomToStand : Op → Slab HeldRequest → Type 0
HasRoomToStand (op_on.Latch (latch_op.Obtain latch requestor mode form)) requests = HasRoomFor requests 1
HasRoomToStand op requests = Unit {0}

-- if this is the reply to a close, the generation that was closed has a next one in 32 bits
abbrev pub ClosesBelow : Op → Reply → Type 0
ClosesBelow (op_on.Element (element_op.Close g)) (reply_of.Element element_reply.Closed) = g + 1 < 2 ^ 32
ClosesBelow op reply = Unit {0}

-- whether an element is in use after an event with this reply
abbrev pub in_use_after : Bool → ElementReply → Bool
in_use_after used (element_reply.Opened g) = true
in_use_after used element_reply.Closed = false
in_use_after used reply = used

-- an element's entry after an event on it
abbrev pub element_after : OwnElement → ElementOp → ElementReply → OwnElement
element_after e op reply = record { in_use = in_use_after e.in_use reply; generation = generation_after e.generation op reply }

-- the tables say what the task keeps, of each block and element that they have and of all requests
pub record Keeps (kept : Kept) (k : Keep) : Type 0 where
  pub extended : AreExtended kept.extended k
  pub elements : AreElements kept.in_use kept.generation k
  pub requests : AreHeld kept.requests k.requests.slots

-- this entry says what the task keeps of element n
pub record IsKeptAs (kept : Kept) (n : ℕ) (e : OwnElement) : Type 0 where
  pub used : e.in_use ≡ kept.in_use n
  pub generation : e.generation ≡ kept.generation n
