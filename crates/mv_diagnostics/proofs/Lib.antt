-- push_runs
pub mod Initiators
-- weight_of: sums over steps and jobs
pub mod Totals
-- held, push_latches
pub mod HeldLatches
