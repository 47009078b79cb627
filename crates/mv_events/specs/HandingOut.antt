-- The reasons for which the next event is handed out, or is not.
use Rattle.std.specs.Prelude.{◌≡◌, ℕ, ◌<◌, ◌≤◌, [], ◌∷◌, Some, None, Result, Ok, Err}
use Rattle.mv_config.specs.Setup.{Setup}
use Rattle.mv_board.specs.Faces.{CallerFace}
use Rattle.mv_calls.specs.declared.table.Table.{Table}
use Rattle.mv_calls.specs.Events.{next_event_refusal}
use Rattle.mv_calls.specs.Refusal.{Refusal}
use Rattle.mv_calls.specs.Refusal as refusal
use Rattle.mv_calls.specs.Table.{event_block, slot_block}
use Rattle.mv_calls.specs.Waits.{wait, test_ecb}
use Rattle.mv_calls.specs.declared.outcomes.WaitSlot.TheVariants as wait_slot
use Rattle.mv_wait.specs.Run.{IsServed, keeps}
use Rattle.mv_events.specs.declared.handing_out.Event.{Event}
use Rattle.mv_events.specs.declared.handing_out.NextRefusal.{NextRefusal}
use Rattle.mv_events.specs.declared.handing_out.NextRefusal.TheVariants as refused

-- the task waited for the slot of this position, and found it complete with this code
abbrev pub HasCode : Setup → Table → ℕ → ℕ → CallerFace → CallerFace → Type 0
HasCode c t position index f g = IsServed 2 (wait c 1 (slot_block t position ∷ [])) (λ a. a ≡ Ok (wait_slot.Complete index ∷ [])) f g

-- the call is refused for this reason, and the task made no event
abbrev pub IsNextRefused : Table → ℕ → CallerFace → Refusal → CallerFace → Type 0
IsNextRefused t position f why g = (next_event_refusal t position (keeps f) ≡ Some why) × (g ≡ f)

-- The code of the slot is the index of an event, whose block was then read; or it is not the index of an event of the table; or
-- the call was refused without an event.
abbrev pub IsNextOutcome : Setup → Table → ℕ → CallerFace → Result Event NextRefusal → CallerFace → Type 0
IsNextOutcome c t position f (Ok event) g =
    (next_event_refusal t position (keeps f) ≡ None) × (event.index < t.size)
    × ((v : CallerFace) × HasCode c t position event.index f v
    × IsServed 1 (test_ecb (event_block t event.index)) (λ a. a ≡ event.word) v g)
IsNextOutcome c t position f (Err refused.NotOwner) g = IsNextRefused t position f refusal.NotOwner g
IsNextOutcome c t position f (Err refused.Drained) g = IsNextRefused t position f refusal.Drained g
IsNextOutcome c t position f (Err (refused.Strange index)) g =
    (next_event_refusal t position (keeps f) ≡ None) × (t.size ≤ index) × HasCode c t position index f g
