-- The words of clauses, from one place: those that the clauses of this crate and of the crates above it cite, and those by which a
-- program speaks of its history. A crate that calls the services needs no other import for them.

-- ---- objects and their operations
pub use Rattle.mv_ecb.specs.declared.operation.EcbOp.{EcbOp}
pub use Rattle.mv_ecb.specs.declared.operation.EcbOp.TheVariants as ecb_op
pub use Rattle.mv_ecb.specs.declared.operation.EcbReply.TheVariants as ecb_reply
pub use Rattle.mv_ecb.specs.Table.{code_limit, ecb_step}
pub use Rattle.mv_element.specs.declared.element.Token.{Token}
pub use Rattle.mv_element.specs.declared.operation.ElementOp.{ElementOp}
pub use Rattle.mv_element.specs.declared.operation.ElementOp.TheVariants as element_op
pub use Rattle.mv_element.specs.declared.operation.ElementReply.TheVariants as element_reply
pub use Rattle.mv_element.specs.Table.{release_limit}
pub use Rattle.mv_latch.specs.declared.operation.LatchOp.TheVariants as latch_op
pub use Rattle.mv_latch.specs.declared.operation.Wake.{Wake}
pub use Rattle.mv_latch.specs.declared.request.LatchForm.TheVariants as latch_form
pub use Rattle.mv_latch.specs.declared.request.Mode.{Mode}
pub use Rattle.mv_latch.specs.declared.request.Mode.TheVariants as mode
pub use Rattle.mv_latch.specs.declared.request.Request.{Request}
pub use Rattle.mv_latch.specs.Request.{posted_ecb}
-- ---- configurations
pub use Rattle.mv_config.specs.Check.{IsValid}
pub use Rattle.mv_config.specs.Config.{exit_of}
pub use Rattle.mv_config.specs.Limits.{events_limit, highest_generation, highest_place, highest_reach}
pub use Rattle.mv_config.specs.Reach.{reach, release_cost, total}
pub use Rattle.mv_config.specs.Setup.{Setup, element_count, element_owner, owner_of}
-- ---- entries, histories, and what they say of a task
pub use Rattle.mv_machine.specs.declared.entry.Entry.{Entry}
pub use Rattle.mv_machine.specs.declared.entry.Object.{Object}
pub use Rattle.mv_machine.specs.declared.entry.Object.TheVariants as object
pub use Rattle.mv_machine.specs.declared.entry.Object.TheVariants.{Ecb, Element, Volume, Latches}
pub use Rattle.mv_machine.specs.declared.entry.Op.{Op}
pub use Rattle.mv_machine.specs.declared.entry.Op.TheVariants as op_on
pub use Rattle.mv_machine.specs.declared.entry.Reply.{Reply}
pub use Rattle.mv_machine.specs.declared.entry.Reply.TheVariants as reply_of
pub use Rattle.mv_machine.specs.declared.entry.VolumeOp.TheVariants as volume_op
pub use Rattle.mv_machine.specs.declared.entry.VolumeReply.TheVariants as volume_reply
pub use Rattle.mv_machine.specs.Kept.{StandingRequest, keeps_quotas, standing}
pub use Rattle.mv_machine.specs.Legal.{Legal, after, of}
pub use Rattle.mv_machine.specs.System.{posts_own_ecb}
pub use Rattle.mv_machine.specs.Waking.{IsFairWake, blocks_of}
-- ---- what a task keeps of its log, what a call is, and what a call returns
pub use Rattle.mv_calls.specs.Keeping.{Kept, kept_of}
pub use Rattle.mv_calls.specs.Program.{Call, Done, Heard, Says, Wrong, entries, finished, left, wrong}
pub use Rattle.mv_calls.specs.Refusal.{Refusal}
pub use Rattle.mv_calls.specs.Rest.{IsAtRest}
pub use Rattle.mv_calls.specs.declared.outcomes.Given.{Given}
pub use Rattle.mv_calls.specs.declared.outcomes.PostAnswer.{PostAnswer}
pub use Rattle.mv_calls.specs.declared.outcomes.ReleaseAnswer.{ReleaseAnswer}
pub use Rattle.mv_calls.specs.declared.outcomes.WaitSlot.{WaitSlot}
-- ---- the calls
pub use Rattle.mv_calls.specs.declared.table.Table.{Table}
pub use Rattle.mv_calls.specs.Endings.{end_of_job, end_of_task, used_elements}
pub use Rattle.mv_calls.specs.Events.{event_requestor, next_event, post_event}
pub use Rattle.mv_calls.specs.Exits.{StartsExit}
pub use Rattle.mv_calls.specs.LatchCalls.{check_latch, obtain, obtain_refusal, purge, release_latch}
pub use Rattle.mv_calls.specs.Pauses.{allocate, deallocate, gift_of, is_others_token, lowest_free, pause, release, test_element}
pub use Rattle.mv_calls.specs.Pauses.{transfer, transfer_refusal, try_release}
pub use Rattle.mv_calls.specs.Posts.{post, try_post}
pub use Rattle.mv_calls.specs.Sections.{HasGrant, IsGuarded, IsHolder, is_write}
pub use Rattle.mv_calls.specs.Services.{most_events, mother_events, obtain_events, transfer_events}
pub use Rattle.mv_calls.specs.Table.{IsSoundTable, slot_block}
pub use Rattle.mv_calls.specs.Waits.{AreDistinct, clear, extend, read_volume, test_ecb, wait, write_volume}
-- ---- stations and tasks
pub use Rattle.mv_board.specs.Faces.{AreFresh, AreInOrder, BoardFace, CallerFace, IsFresh, IsIn, IsOf, IsSame, last_of}
pub use Rattle.mv_wait.specs.Answers.{clear_answer, extend_answer, wait_answer}
pub use Rattle.mv_wait.specs.Begun.{IfOver, MatchBegun}
pub use Rattle.mv_wait.specs.Ready.{ready_count}
pub use Rattle.mv_wait.specs.OneBlock.{WaitedFor}
pub use Rattle.mv_wait.specs.Run.{IsServed, MayCall, Serves, Went, keeps}
pub use Rattle.mv_wait.specs.Waiting.{AreOwn}
