-- the events that a task made, and how far they took a program
pub mod Runs
pub mod Steps
pub mod LatchSteps
pub mod OneEvent
pub mod Compose
-- what a reply says, by the history before it
pub mod Answering
pub mod Admits
pub mod Low
-- what a task keeps in its tables
pub mod Keeping
pub mod Slots
pub mod Entries
pub mod Recording
-- looks at what a task waits for, and the callers of a new board
pub mod Peeks
-- waits
pub mod Waits
pub mod Doubled
pub mod Parts
pub mod Unready
pub mod Unrefusing
-- a wait for one block, as the programs above use it
pub mod OneBlock
-- posts and their exits
pub mod Exits
pub mod Posts
-- calls of one event
pub mod Singles
-- lemmas of the crates below, for the proofs of the crates above
pub use Rattle.mv_latch.proofs.Joined
pub use Rattle.mv_latch.proofs.Members
pub use Rattle.mv_latch.proofs.Splits
pub use Rattle.mv_config.proofs.Chains
pub use Rattle.mv_machine.proofs.EntryRuns
pub use Rattle.mv_machine.proofs.Histories
pub use Rattle.mv_machine.proofs.Lists
pub use Rattle.mv_machine.proofs.Longer
pub use Rattle.mv_machine.proofs.Objects
pub use Rattle.mv_machine.proofs.Places
pub use Rattle.mv_calls.proofs.Interleaved
pub use Rattle.mv_calls.proofs.Making
pub use Rattle.mv_calls.proofs.Sections
pub use Rattle.mv_calls.proofs.Unrefused
