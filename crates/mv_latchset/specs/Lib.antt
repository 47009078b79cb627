pub mod Token
pub mod Says
pub mod Replies
pub mod Answers
pub mod Obtaining
pub mod Waking
pub mod Releasing
pub mod Polling
