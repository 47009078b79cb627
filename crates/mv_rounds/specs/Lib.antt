-- a round of tasks
pub mod Round
-- the numbers that a task has written into the volumes
pub mod Restored
