pub mod Request
pub mod Latch
pub mod LatchSet
pub mod Selection
pub mod Queues
pub mod Inside
