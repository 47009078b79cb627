-- the configuration
pub mod Setup
-- what the tasks keep to, and what they have read
pub mod Whole
