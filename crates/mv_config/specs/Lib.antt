pub mod Limits
pub mod Setup
pub mod Config
pub mod Check
pub mod Reach
pub mod Chains
pub mod Valid
