-- what holds at a stage of a call
pub mod Stages
-- looks at the blocks of a wait, and what a poll found
pub mod Looks
-- waits between two polls, and their arms
pub mod Arms
pub mod Waits
-- pauses between two polls
pub mod Pauses
-- obtains between two polls
pub mod Obtains
-- registering with sources
pub mod Listening
-- the wakers that are left with sources, and those that a ring takes
pub mod Wakers
