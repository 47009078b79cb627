-- the journal of a run
pub mod Runs
-- how a run ends, and what it writes
pub mod Owed
pub mod Told
