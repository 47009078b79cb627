-- the services that a task has made
pub mod Served
-- one call, and all calls of a task
pub mod Making
-- what each task has besides its seat
pub mod Rooms
-- the outcome of a run
pub mod RunOf
