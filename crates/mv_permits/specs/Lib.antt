-- the configuration
pub mod Setup
-- what the tasks keep to, and what follows
pub mod Permits
