-- the polled call of what a task waits for
pub mod Meeting
-- a polled task, and all of them
pub mod Polled
