-- a call that a task has run a part of, and what is left of it
pub mod Runs
-- calls that are needs, with what follows them; a task that comes to its next wait
pub mod Calls
pub mod Waits
-- the configuration, and sound decks
pub mod Reaches
pub mod Decks
pub mod Spools
-- numbers of a range, and a job's AFTER list
pub mod Ranges
-- marks that are appended
pub mod Marks
-- the scheduler
pub mod Dispatching
-- an initiator
pub mod Steps
pub mod Rounds
-- a task that has come to its next wait, in its role
pub mod Going
-- whoever runs tasks
pub mod Meeting
-- what the initiators of a run bring back
pub mod brought
-- the works of all tasks, by their roles
pub mod Roles
-- from what each task has made to the run that they made together
pub mod Histories
