-- lists
pub mod Lists
-- the services that a task has made, and the answers of the calls that use them
pub mod Answers
pub mod Served
-- one call, by what its service did
pub mod Makes
pub mod Obtains
-- all calls of a task
pub mod Paths
pub mod Steps
-- the events of a task in the history of all tasks
pub mod Histories
-- write_answer_lists
pub mod Texts
-- run_script
pub mod Scripts
pub mod Tasks
