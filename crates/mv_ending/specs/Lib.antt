pub mod Input
pub mod Written
pub mod Ending
pub mod Note
