pub mod Objects
pub mod System
pub mod Legal
pub mod Told
pub mod Elements
pub mod OnePost
pub mod State
pub mod Replay
pub mod Packing
pub mod Parts
pub mod Compact
pub mod Log
pub mod Merge
pub mod History
pub mod Room
pub mod Kept
pub mod Parked
pub mod Owned
pub mod Orderly
-- the contents of replies and wakes, and how a request is taken out
pub mod Replies
pub mod Leaving
pub mod Waking
-- the words of all of these, from one place
pub mod Prelude
