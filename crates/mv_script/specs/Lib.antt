pub mod Costs
pub mod Script
pub mod Table
pub mod Fault
pub mod Answered
pub mod Tasks
pub mod Run
pub mod AnswerText
pub mod Sound
pub mod Events
pub mod Reading
-- the words of all of these, from one place
pub mod Prelude
