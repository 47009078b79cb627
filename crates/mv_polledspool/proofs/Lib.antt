-- the call for a need, from its first poll to its answer
pub mod Calls
-- a polled task, from one state to the next
pub mod Polling
-- from tasks that are all finished to the run that they made
pub mod Running
