-- what a reply says, by the history before it
pub mod Answering
-- events on elements as runs of the calls' programs
pub mod Served
-- the lowest element that is not in use
pub mod Lowest
-- pauses
pub mod Gifts
pub mod Between
-- a release by an exchange
pub mod Tried
-- transfers
pub mod Transfers
