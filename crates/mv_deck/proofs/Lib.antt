-- held latches
pub mod Latches
-- one more statement after those that were read
pub mod Mapped
pub mod Jobs
pub mod Steps
pub mod Told
pub mod Checked
pub mod Behind
-- the pass, and the first fault
pub mod Passes
pub mod Lowest
-- the law that decks are sound
pub mod Sounds
-- loads
pub mod LoadText
pub mod Tidy
pub mod LoadLines
pub mod LoadJobs
pub mod LoadStates
pub mod LoadBytes
pub mod Loads
-- rows worked by hand
pub mod Rows
