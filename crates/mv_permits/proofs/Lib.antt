-- what a log keeps to, with entries more
mod Logs
-- what a call leaves of its task
mod Calls
-- share
mod Bounded
