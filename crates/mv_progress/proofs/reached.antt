-- Invariants: what the entries so far have brought about, so that what a task waits for comes.
pub mod Entered
pub mod Found
pub mod Dismissed
pub mod Ended
pub mod Along
pub use Entered.*
pub use Found.*
pub use Dismissed.*
pub use Ended.*
pub use Along.*
