-- For the programs above: which entries a call makes, by its program, and the entry of a call of one event
pub mod Always
pub mod Once
-- which events each call may make
pub mod Says
-- seated, run_tasks
mod Seats
-- seated, parted
mod Yielded
-- a task's log in the history of a closed station
pub mod Back
-- what holds of the entries of all callers, with which code a block was found complete, and which code a pause was given
pub mod Entries
-- config_of_blocks
mod Unrefused
