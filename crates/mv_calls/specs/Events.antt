-- The calls on tables of events. Each is made of other calls, one after the other.
use Rattle.std.specs.Prelude.{ℕ, ◌+◌, ◌^◌, ◌==◌, nat_lt, false, not, List, [], ◌∷◌, Option, Result, Ok, Err, if◌then◌else◌}
use Rattle.std.specs.Option.{option_or}
use Rattle.mv_latch.specs.declared.request.LatchForm.TheVariants.{Waiting}
use Rattle.mv_latch.specs.declared.request.Mode.TheVariants.{Exclusive}
use Rattle.mv_config.specs.Setup.{Setup}
use Rattle.mv_calls.specs.declared.outcomes.PostAnswer.{PostAnswer}
use Rattle.mv_calls.specs.declared.outcomes.PostAnswer.TheVariants.{Already}
use Rattle.mv_calls.specs.declared.table.Table.{Table}
use Rattle.mv_calls.specs.Keeping.{Kept}
use Rattle.mv_calls.specs.LatchCalls.{Requested, GrantedAs, PendingAs, obtain, release_latch}
use Rattle.mv_calls.specs.Posts.{post}
use Rattle.mv_calls.specs.Program.{Call, followed, finished, wrong, unless_refused}
use Rattle.mv_calls.specs.Refusal.{Refusal}
use Rattle.mv_calls.specs.Refusal as refusal
use Rattle.mv_calls.specs.Table.{event_block, slot_block}
use Rattle.mv_calls.specs.Waits.{refused_if, wait, test_ecb, read_volume, write_volume}
use Rattle.mv_calls.specs.declared.outcomes.WaitSlot.{WaitSlot}
use Rattle.mv_calls.specs.declared.outcomes.WaitSlot.TheVariants as wait_slot

-- the outcome of a post of an event: the event has this position, or it was complete with this code before
pub data Entering : Type 0 where
  EnteredAt : (position : ℕ) → Entering
  WasComplete : (code : ℕ) → Entering

-- an event that was handed out: its index, and the word of its block
pub record Finding : Type 0 where
  pub index : ℕ
  pub word : ℕ

-- ---- post of an event

-- the requestors of posts of events begin with this one: there is one for each caller
abbrev pub first_event_requestor : ℕ
first_event_requestor = 2 ^ 63

-- the requestor of a caller's posts of events
abbrev pub event_requestor : ℕ → ℕ
event_requestor k = first_event_requestor + k

-- The latch is released, and the call returns this answer, whatever the reply to the release is: a purge may have taken the
-- request out.
abbrev pub freed : {A : Type 0} → Setup → Table → ℕ → A → Call A
freed c t id answer = followed (release_latch c t.latch id false) (λ released. finished answer)

-- the event has position k: the volume now counts k + 1 events, and slot k is posted with the event's index
abbrev pub entered : Setup → Table → ℕ → ℕ → ℕ → Call (Result Entering Refusal)
entered c t index id k =
    followed (write_volume t.volume (k + 1)) (λ stored.
    followed (post c (slot_block t k) index) (λ posted.
    freed c t id (Ok (EnteredAt k))))

-- the table's volume was read, and has counted k events: this one gets slot k if the table has that slot
abbrev pub count_read : Setup → Table → ℕ → ℕ → ℕ → Call (Result Entering Refusal)
count_read c t index id k = if nat_lt k t.size then entered c t index id k else freed c t id (Err (refusal.Broken k))

-- the event's block was posted: an event that was complete before is not counted again
abbrev pub event_posted : Setup → Table → ℕ → ℕ → PostAnswer → Call (Result Entering Refusal)
event_posted c t index id (Already code) = freed c t id (Ok (WasComplete code))
event_posted c t index id other = followed (read_volume t.volume) (count_read c t index id)

-- with the latch the event's block is posted; without it nothing is
abbrev pub with_latch : Setup → Table → ℕ → ℕ → Result Requested Refusal → Call (Result Entering Refusal)
with_latch c t index code (Ok (GrantedAs id)) = followed (post c (event_block t index) code) (event_posted c t index id)
with_latch c t index code (Ok (PendingAs id)) = wrong
with_latch c t index code (Err why) = finished (Err why)

-- post of an event, under the table's latch
abbrev pub post_event : Setup → Table → ℕ → ℕ → Call (Result Entering Refusal)
post_event c t index code kept =
    followed (obtain c t.latch (event_requestor kept.caller) Exclusive Waiting) (with_latch c t index code) kept

-- ---- the next event

-- why a next event is refused: the table is another caller's, or has no such position
abbrev pub next_event_refusal : Table → ℕ → Kept → Option Refusal
next_event_refusal t position kept =
    option_or (refused_if (not (t.owner == kept.caller)) refusal.NotOwner)
    (refused_if (not (nat_lt position t.size)) refusal.Drained)

-- the index of the event is handed out with the word of its block
abbrev pub handed_out : Table → ℕ → Call (Result Finding Refusal)
handed_out t index =
    followed (test_ecb (event_block t index)) (λ word. finished (Ok (record { index = index; word = word })))

-- the slot has this code, which should be an event's index
abbrev pub indexed : Table → ℕ → Call (Result Finding Refusal)
indexed t index = if nat_lt index t.size then handed_out t index else finished (Err (refusal.Strange index))

-- a wait for one block that was not refused has found the block complete
abbrev pub slot_found : Table → Result (List WaitSlot) Refusal → Call (Result Finding Refusal)
slot_found t (Ok (wait_slot.Complete index ∷ [])) = indexed t index
slot_found t answer = wrong

-- next event: waits for the slot of this position, and then reads the block of the slot's event
abbrev pub next_event : Setup → Table → ℕ → Call (Result Finding Refusal)
next_event c t position kept =
    unless_refused (next_event_refusal t position kept)
    (followed (wait c 1 (slot_block t position ∷ [])) (slot_found t) kept)
