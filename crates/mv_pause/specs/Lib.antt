pub mod Replies
pub mod Answers
pub mod Pausing
pub mod Releasing
pub mod Transferring
pub mod Deallocating
