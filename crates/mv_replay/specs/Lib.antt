pub mod Judgement
pub mod Outcome
pub mod Course
pub mod Status
