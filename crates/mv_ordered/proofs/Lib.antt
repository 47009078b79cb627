-- what the lock order says of one caller's log
pub mod Logs
-- latches_in_rising_order_do_not_deadlock, unfinished_callers_do_not_all_wait
pub mod Chains
-- for programs: which calls keep the lock discipline
pub mod Calls
-- worked rows: a history that keeps the order, and one for each premise that is broken
pub mod Rows
