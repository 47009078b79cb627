-- the configuration, and the requests
pub mod Pool
-- what each task of the pool guarantees
pub mod Right
-- what is kept from one round to the next
pub mod Rounds
