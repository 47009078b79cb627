-- one event on the latch set: its reply, and what the task keeps and has open after it
pub mod Answering
pub mod Admits
pub mod Stands
pub mod Resting
-- obtain
pub mod Obtains
pub mod Between
-- check_latch
pub mod Checks
-- release_latch, purge
pub mod Wakes
pub mod Releases
