-- one call of a list
pub mod Places
-- one more call of a task
pub mod Steps
-- a call that waits, when it is polled
pub mod Polled
-- a call that waits, when it begins
pub mod Begins
-- the first half of a call that waits
pub mod Halves
-- what a task has done, in the history of all tasks
pub mod Histories
-- one run
pub mod Tasks
-- the text of what tasks wait for
pub mod Texts
