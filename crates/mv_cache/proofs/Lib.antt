-- what a log keeps to, with one entry more
mod Logs
-- write_pair, read_pair
mod Calls
-- share
mod Torn
