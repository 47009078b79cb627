pub mod Journal
pub mod Lines
pub mod Fault
pub mod Said
pub mod Draft
pub mod Reader
pub mod Writer
pub mod HistoryText
