-- the configuration
pub mod Setup
-- the codes that go through a block
pub mod Slots
-- a task between two calls, and what it has done when it is back
pub mod Ready
