-- programs over what was observed, and calls one after the other
pub mod Programs
pub mod Making
-- what a caller observes in a history, and histories in which each caller follows its program
pub mod Hearing
pub mod Interleaved
-- lists of different numbers
pub mod Distinct
-- the program of a call that is not refused
pub mod Unrefused
-- the rest of a call after each reply, and the calls of one event: for calls_keep_to_their_events, posts_reach and number_calls
pub mod Replies
-- calls_keep_to_their_events
pub mod Needs
-- last_event_is_the_machines, generations_in_replies, codes_in_replies
pub mod Behind
pub mod Generations
pub mod Codes
-- keeping_agrees, own_blocks_answer, own_elements_answer
pub mod Folds
pub mod Blocks
pub mod Elements
pub mod AtRest
pub mod OwnBlocks
pub mod OwnReplies
-- quotas_hold, wakes_are_in_range
pub mod Wakes
-- requests_leave_by_purges, requests_stay, latches_answer, requests_at_rest
pub mod Removals
pub mod Gone
pub mod LatchReplies
pub mod Queues
-- holders_exclude, sections_are_undisturbed
pub mod Sections
-- posts_reach
pub mod Posting
-- the laws as a caller's own log has them
pub mod Uses
-- number_calls, replay_calls
pub mod call_numbers
-- worked rows: calls that are computed, the histories that several rows use, and the rows
pub mod Computed
pub mod Examples
pub mod WaitRows
pub mod PauseRows
pub mod LatchRows
pub mod SectionRows
pub mod EndRows
pub mod EventRows
-- Table::check
pub mod Tables
pub mod TableFacts
-- an exit starts from a block that a task holds extended: for waits
pub mod ExtendedBlocks
