pub mod EndCode
pub mod Report
pub mod Outcome
pub mod Summary
