-- The words of clauses and laws, from one place: those of the machine, and those of the objects that its entries name.

-- ---- operations on objects, and their steps
pub use Rattle.mv_ecb.specs.declared.operation.EcbOp.{EcbOp}
pub use Rattle.mv_ecb.specs.Table.{ecb_step}
pub use Rattle.mv_ecb.specs.Word.{Complete}
pub use Rattle.mv_element.specs.declared.operation.ElementOp.{ElementOp}
pub use Rattle.mv_element.specs.declared.element.Phase.TheVariants.{Free, Prereleased, Released}
pub use Rattle.mv_element.specs.Table.{element_step}
pub use Rattle.mv_latch.specs.declared.operation.LatchOp.{LatchOp}
pub use Rattle.mv_latch.specs.declared.operation.Wake.{Wake}
pub use Rattle.mv_latch.specs.declared.request.Request.{Request}
pub use Rattle.mv_latch.specs.Latch.{granted, is_settled}
pub use Rattle.mv_latch.specs.LatchSet.{IsNewId, count_in, latch_step, list_of, wakes}
pub use Rattle.mv_latch.specs.Request.{has_id, of_caller, posted_of}
-- ---- configurations
pub use Rattle.mv_config.specs.Check.{IsValid}
pub use Rattle.mv_config.specs.Limits.{ecbs_limit, events_limit, highest_generation, highest_place}
pub use Rattle.mv_config.specs.Reach.{reach, total}
pub use Rattle.mv_config.specs.Setup.{Setup, element_owner, is_exit_of, is_on_exit, owner_of, targets_of}
-- ---- entries and histories
pub use Rattle.mv_machine.specs.declared.entry.Entry.{Entry}
pub use Rattle.mv_machine.specs.declared.entry.Object.{Object}
pub use Rattle.mv_machine.specs.declared.entry.Object.TheVariants.{Ecb, Element, Volume, Latches}
pub use Rattle.mv_machine.specs.declared.entry.Op.{Op}
pub use Rattle.mv_machine.specs.declared.entry.VolumeOp.{VolumeOp}
pub use Rattle.mv_machine.specs.Legal.{CountsFrom, IsNext, Legal, SameAt, after, «at», of, same_object}
pub use Rattle.mv_machine.specs.Log.{with_entry}
pub use Rattle.mv_machine.specs.Merge.{entry_count, merge_from, merged, start}
pub use Rattle.mv_machine.specs.Parts.{Had, IsPossible, KeepsBudgets, parts}
pub use Rattle.mv_machine.specs.Replies.{CountsWakes, HasPlaceAsNumber, IsLatchReply, IsOfKind, NamesLowCode, NamesUpTo}
pub use Rattle.mv_machine.specs.Replies.{OnEcb, OnElement, OnLatch}
pub use Rattle.mv_machine.specs.Room.{IsRoomFor}
pub use Rattle.mv_machine.specs.Told.{last_wakes, told}
-- ---- the state of all objects, its step, and the words that its objects are packed in
pub use Rattle.mv_machine.specs.declared.packing.WordState.{WordState}
pub use Rattle.mv_machine.specs.Elements.{FitsItsPlace, extra}
pub use Rattle.mv_machine.specs.Packing.{HasFields, HasOpFields, IsStateOf, pack, reply_in, state_after, state_at, unpack, word_at}
pub use Rattle.mv_machine.specs.State.{IsOpenedWith, system_of, wakes_of}
pub use Rattle.mv_machine.specs.System.{System, admitted, answer, moved, opening, place_of, reply_to, volume_step}
-- ---- what a history says of a task, a block, an element and a request
pub use Rattle.mv_machine.specs.Kept.{RisesFrom, StandingRequest, allowed, is_posting, standing}
pub use Rattle.mv_machine.specs.Leaving.{HasNoEarlyConfirm, NoneTakesOut, WasPurged, takes_out}
pub use Rattle.mv_machine.specs.OnePost.{TakePosts}
pub use Rattle.mv_machine.specs.Orderly.{IsOrderly}
pub use Rattle.mv_machine.specs.Owned.{HasNo, IsGone, IsGranted, is_clear, is_owners, owner_at}
pub use Rattle.mv_machine.specs.Waking.{AreFairWakes, IsFair}
