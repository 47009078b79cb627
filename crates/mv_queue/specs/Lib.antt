-- the configuration
pub mod Setup
-- what goes in and comes out, and what the tasks keep to
pub mod Queue
