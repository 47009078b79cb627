-- what is noted of a job, and what an initiator has noted
pub mod Records
pub mod Inside
-- the tasks as programs that note
pub mod Noting
-- what the records of a run come to, and the lines that they give
pub mod Recording
-- calls that a task has run
pub mod Ran
-- what the tasks have in common
pub mod Spool
-- what a task waits for, and what meets that
pub mod Needs
pub mod Meeting
pub mod Waiting
-- parts of the plan's calls, and what the code's types say in the plan's words
pub mod Parts
pub mod Steps
-- each kind of task that waits
pub mod Scheduling
pub mod Initiating
pub mod Writing
-- the work of a task
pub mod Works
-- the words of clauses, from one place
pub mod Prelude
