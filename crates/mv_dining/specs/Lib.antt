-- the configuration
pub mod Setup
-- what a philosopher keeps to
pub mod Dining
