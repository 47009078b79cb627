-- verdict_on, open
pub mod Verdicts
-- step, object
pub mod Steps
-- write_line
pub mod Replies
-- empty, of, into_box
pub mod Walks
pub mod HandleSteps
