-- The words of the libraries, the specs and the machine that these proofs cite, passed on from one place. Where a variant has a name
-- that another type has too, it is written behind its type, as Op.Ecb and Reply.Ecb.
pub use Rattle.std.proofs.Common.{◌≡◌, ℕ, ◌+◌, List, [], ◌∷◌, refl, ap, ◌∙◌, ◌<◌, ◌==◌, Bool, true, false, if◌then◌else◌, ◌++◌, length}
pub use Rattle.std.proofs.Common.{Some, sym, subst, zero, suc, ◌*◌, ◌^◌, ◌≤◌, None, append-nil, arith, inl, inr, ◌-◌, nat_le, ◌&&◌, Option}
pub use Rattle.std.proofs.Common.{◌||◌, slice_index, ◌⊎◌, map, get_or, replicate, append_assoc, sum, zero-add, cond, not, IsTrue, filter}
pub use Rattle.std.proofs.Common.{nat_lt, Ok, Result, set, rules, drop, take, sum_by}
pub use Rattle.std.proofs.lemmas.Grind.{common_steps}
pub use Rattle.std.proofs.lemmas.List.Sums.{sum_by-cons}
pub use Rattle.mv_deck.specs.declared.deck.Step.{Step}
pub use Rattle.mv_report.specs.Outcome.{added, before_end, ends, total, some_unaccepted, own_end}
pub use Rattle.std.proofs.lemmas.Bool.{eq-eqb, false≢true, cases_eq, ne_eqb, leb-true, le-leb, and_parts, eqb-true, or_left, or_right}
pub use Rattle.std.proofs.lemmas.Bool.{cases_lt, lt-ltb, lt-leb}
pub use Rattle.mv_machine.specs.declared.entry.Entry.{Entry}
pub use Rattle.mv_machine.specs.declared.entry.Object.{Object}
pub use Rattle.mv_machine.specs.declared.entry.Object.TheVariants.{Ecb, Element, Volume, Latches}
pub use Rattle.mv_machine.specs.declared.entry.Op.{Op}
pub use Rattle.mv_machine.specs.Legal.{IsNext, next, after_from, of, «at», after}
pub use Rattle.mv_config.specs.Setup.{Setup, SetupExit, owner_of, is_exit_of, element_owner}
pub use Rattle.mv_machine.specs.System.{System, opening, moved, with_at, reply_to, advanced, Cell, admitted, ecb_admitted}
pub use Rattle.mv_deck.specs.Deck.{JobData, job_data}
pub use Rattle.mv_calls.specs.Keeping.{Kept, nothing_kept, kept_after}
pub use Rattle.mv_plan.specs.SpoolSetup.{initiator, reader, scheduler, writer, idle, end_owners, block_owners, end_exit, end_for_scheduler}
pub use Rattle.mv_plan.specs.SpoolSetup.{end_for_writer, task_budgets, spool_setup, entered, done}
pub use Rattle.mv_machine.proofs.Objects.{same_is}
pub use Rattle.mv_plan.specs.HandingOut.{gift_code, naming, given_codes, released_code, released_codes, closings, IsRightRelease}
pub use Rattle.mv_plan.specs.HandingOut.{AreHandedOut}
pub use Rattle.mv_deck.specs.declared.deck.Step.TheVariants.{Print, Use, Free, Count, Scan, Abend, Return}
pub use Rattle.mv_machine.specs.declared.entry.Reply.{Reply}
pub use Rattle.mv_machine.specs.declared.entry.VolumeOp.{VolumeOp}
pub use Rattle.mv_machine.specs.declared.entry.VolumeReply.{VolumeReply}
pub use Rattle.mv_plan.specs.Jobs.{job_at, end_of, no_job}
pub use Rattle.mv_plan.specs.SpoolTasks.{Named, job_named, not_to_run, code_of, ends_of, task_program, named_by, run_job, granted_as}
pub use Rattle.mv_plan.specs.SpoolTasks.{rounds, some_end_above, lowest, ends_awaited, hand_over, first_of}
pub use Rattle.mv_deck.specs.EndCode.{not_run}
pub use Rattle.mv_report.proofs.Lengths.{one_end_per_job}
pub use Rattle.mv_ecb.specs.Table.{ecb_step}
pub use Rattle.mv_element.specs.declared.element.ElementState.{ElementState}
pub use Rattle.mv_element.specs.declared.element.Phase.{Phase}
pub use Rattle.mv_element.specs.Table.{element_step}
pub use Rattle.std.proofs.lemmas.Option.{some_pair_parts}
pub use Rattle.mv_element.specs.Element.{reset, free, prereleased}
pub use Rattle.std.specs.List.{AllByRecursion, range_with_len, filter_map, list_any, Contains}
pub use Rattle.mv_machine.proofs.Lists.{all_push, all_append, all_at, all_filter}
pub use Rattle.mv_deck.specs.Weight.{step_events, weight}
pub use Rattle.std.proofs.lemmas.List.{length-append, length-replicate, get_or-replicate, length-map}
pub use Rattle.mv_config.specs.Config.{exit_of}
pub use Rattle.std.proofs.lemmas.List.Elements.{filter_map-append, filter-append}
pub use Rattle.mv_latch.specs.declared.request.Mode.{Mode}
pub use Rattle.mv_latch.specs.declared.request.Mode.TheVariants.{Exclusive}
pub use Rattle.mv_calls.specs.Waits.{AreDistinct, complete_count, refused_if, enough, arm_all, settle_all, the_word, extended, extend}
pub use Rattle.mv_deck.specs.declared.deck.After.{After}
pub use Rattle.mv_deck.specs.Held.{is_end}
pub use Rattle.mv_latch.specs.Request.{is_shared, is_own, shared_request, of_caller, of_requestor}
pub use Rattle.std.proofs.lemmas.List.FromFn.{length-map-range_with_len}
pub use Rattle.mv_ecb.specs.declared.operation.EcbOp.{EcbOp}
pub use Rattle.mv_ecb.specs.declared.operation.EcbReply.{EcbReply}
pub use Rattle.mv_ecb.specs.Word.{EcbState, Complete, Zero, Extended}
pub use Rattle.mv_element.specs.declared.operation.ElementReply.{ElementReply}
pub use Rattle.mv_calls.proofs.Computed.{legal_by, made, at_block, at_element, at_volume, at_latches}
pub use Rattle.mv_plan.specs.SpoolRun.{IsRun, Follows}
pub use Rattle.mv_plan.specs.PostingEnds.{posts, post_codes, EndsArePosted}
pub use Rattle.std.specs.Prelude.{codes}
pub use Rattle.mv_calls.specs.Program.{asks, Program, Do, Done, Heard, heard, and_then, going_on, unrefused, accepted, followed, finished}
pub use Rattle.mv_calls.specs.Program.{unless_refused, on_element, on_latch, Early, Wrong, Call, on_ecb}
pub use Rattle.mv_latch.specs.declared.operation.Wake.{Wake}
pub use Rattle.mv_calls.specs.declared.outcomes.Purged.{Purged}
pub use Rattle.mv_calls.specs.declared.outcomes.WaitSlot.{WaitSlot}
pub use Rattle.mv_calls.specs.LatchCalls.{obtained}
pub use Rattle.mv_calls.specs.Pauses.{token_of, pause, closed, deallocate, release}
pub use Rattle.mv_calls.specs.declared.outcomes.PostAnswer.{PostAnswer}
pub use Rattle.mv_calls.specs.declared.outcomes.PostAnswer.TheVariants.{Woke}
pub use Rattle.mv_calls.specs.Posts.{each_posted, posted_next, post_within, wake_posted, post}
pub use Rattle.mv_calls.specs.Refusal.{Refusal}
pub use Rattle.mv_calls.proofs.Unrefused.{wait_unrefused}
pub use Rattle.mv_latch.specs.declared.request.Request.{Request}
pub use Rattle.mv_latch.specs.declared.request.LatchForm.{LatchForm}
pub use Rattle.mv_latch.proofs.Members.{not_in_empty, first_or_rest, first_is_in}
pub use Rattle.mv_latch.specs.Latch.{granted, grants, waiting, newly_granted, obtain_step, release_step, without}
pub use Rattle.mv_latch.specs.LatchSet.{list_of, latch_step}
pub use Rattle.mv_latch.specs.declared.operation.LatchOp.{LatchOp}
pub use Rattle.mv_latch.specs.declared.operation.LatchReply.{LatchReply}
pub use Rattle.mv_machine.proofs.Standing.{mine}
pub use Rattle.mv_machine.proofs.StandingRuns.{NamesLatch}
pub use Rattle.mv_plan.specs.Purging.{is_obtain, purges, ArePurged}
pub use Rattle.mv_machine.specs.Orderly.{purged_by}
pub use Rattle.mv_machine.specs.Elements.{element_events}
pub use Rattle.mv_calls.specs.Runs.{left_in}
pub use Rattle.mv_element.specs.declared.operation.ElementOp.{ElementOp}
pub use Rattle.mv_calls.proofs.Interleaved.{programs_after}
pub use Rattle.std.proofs.Math.Seq.{get_or-append_seam}
