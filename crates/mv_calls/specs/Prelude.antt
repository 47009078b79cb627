-- The words of clauses and laws, from one place: those of calls, and of the machine that their events are made on.

-- ---- operations on objects
pub use Rattle.mv_ecb.specs.Table.{code_limit}
pub use Rattle.mv_latch.specs.declared.operation.Wake.{Wake}
pub use Rattle.mv_latch.specs.LatchSet.{list_of}
-- ---- configurations
pub use Rattle.mv_config.specs.Check.{IsValid}
pub use Rattle.mv_config.specs.Config.{exit_of, setup_of}
pub use Rattle.mv_config.specs.Limits.{events_limit, exits_limit, highest_generation, highest_place}
pub use Rattle.mv_config.specs.Reach.{reach, total}
pub use Rattle.mv_config.specs.Setup.{Setup, element_owner, owner_of}
-- ---- entries, histories, and what they say of a task
pub use Rattle.mv_machine.specs.declared.entry.Entry.{Entry}
pub use Rattle.mv_machine.specs.declared.entry.Object.{Object}
pub use Rattle.mv_machine.specs.declared.entry.Object.TheVariants.{Ecb, Element, Volume, Latches}
pub use Rattle.mv_machine.specs.declared.entry.Op.{Op}
pub use Rattle.mv_machine.specs.declared.entry.VolumeOp.{VolumeOp}
pub use Rattle.mv_machine.specs.Kept.{StandingRequest, allowed, is_for, is_named, is_posting, less, standing, stands_after}
pub use Rattle.mv_machine.specs.Legal.{Legal, after, of, same_object}
pub use Rattle.mv_machine.specs.Merge.{merged}
pub use Rattle.mv_machine.specs.Parts.{IsPossible, KeepsBudgets}
pub use Rattle.mv_machine.specs.Replay.{IsFirstIllegal}
pub use Rattle.mv_machine.specs.Replies.{NamesUpTo}
pub use Rattle.mv_machine.specs.State.{IsOpenedWith, system_of}
pub use Rattle.mv_machine.specs.System.{opening, place_of}
-- ---- what a task keeps of its log, what a call is, and when one was made
pub use Rattle.mv_calls.specs.Behind.{IsBehind, IsEvent}
pub use Rattle.mv_calls.specs.Keeping.{Kept, extended_with, generation_after, generation_with, in_use_with}
pub use Rattle.mv_calls.specs.Keeping.{kept_after, kept_of, nothing_kept}
pub use Rattle.mv_calls.specs.Made.{HaveTheirWakes, IsMade, told_by}
pub use Rattle.mv_calls.specs.Program.{Done, Heard, Says, Wrong, entries}
pub use Rattle.mv_calls.specs.Refusal.{Doubled, ExtendedAt, NotOwnerAt, Refusal}
pub use Rattle.mv_calls.specs.Rest.{IsAtRest, open_waits}
pub use Rattle.mv_calls.specs.Runs.{heard_in, left_in}
-- ---- the calls
pub use Rattle.mv_calls.specs.declared.table.Table.{Table}
pub use Rattle.mv_calls.specs.Events.{Entering, Finding, next_event, post_event}
pub use Rattle.mv_calls.specs.Exits.{StartsExit}
pub use Rattle.mv_calls.specs.Posts.{post, try_post}
pub use Rattle.mv_calls.specs.Table.{IsSoundTable}
pub use Rattle.mv_calls.specs.Waits.{AreDistinct, clear, complete_count, doubled_at, extend, extend_refusal, is_others_block}
pub use Rattle.mv_calls.specs.Waits.{read_volume, refused_at, test_ecb, wait, wait_refusal, write_volume}
-- ---- to which call of its caller each entry belongs
pub use Rattle.mv_calls.specs.Counters.{HasCounted}
pub use Rattle.mv_calls.specs.Numbers.{calls}
