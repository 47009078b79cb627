-- what a poll of a call leaves
pub mod Polls
-- a task between two polls
pub mod Task
-- what the tasks of a script have done
pub mod SoFar
-- how far a task has got
pub mod Standing
-- which call would end a wait
pub mod Finding
-- who waits for what
pub mod Text
