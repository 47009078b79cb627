-- decks, the configuration, and the tasks
pub mod Jobs
pub mod SpoolSetup
pub mod SpoolTasks
pub mod SpoolRun
-- what holds of each history that follows the plan
pub mod StayingWithin
-- what holds of each run
pub mod HandingOut
pub mod PostingEnds
pub mod CountingAlone
pub mod Purging
-- the words of all of these, from one place
pub mod Prelude
