-- lists
pub mod Lists
-- legal lists: one more entry, the part of one object, the part of one caller; lemmas that many laws use
pub mod Histories
pub mod EntryRuns
pub mod Objects
pub mod SameParts
pub mod Longer
pub mod Places
pub mod Budgets
-- State::opening, State::step
pub mod Tables
pub mod Writes
-- replay
pub mod Replays
-- Log and OpenLog: compact entries
pub mod Compacts
-- pack, unpack, and the laws on words
pub mod Packings
pub mod Words
pub mod WordSteps
-- History, and the law on merging
pub mod Picks
pub mod Lefts
pub mod Merged
pub mod OneHistory
pub mod MergeSteps
pub mod Gives
pub mod InLogs
-- the entries on one object, and the object's own run
pub mod OneObject
pub mod Subjects
-- generations_fit, and the order of a history at one element
pub mod ElementLaws
pub mod ElementRuns
-- posts_complete_once
pub mod OnePost
-- others_keep_what_is_owned
pub mod Owners
pub mod GrantRuns
pub mod Grants
-- requests_stand_by_their_callers_entries
pub mod LatchIds
pub mod LatchRuns
pub mod Standing
pub mod StandingRuns
pub mod StandingCounts
pub mod LatchNumbers
pub mod Allowed
-- histories_are_orderly
pub mod Replies
pub mod Requests
pub mod Orderly
-- worked rows
pub mod Rows
