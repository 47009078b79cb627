-- what one more entry tells of a log
mod Logs
-- what a call leaves of its task
mod Calls
-- pass
mod Order
