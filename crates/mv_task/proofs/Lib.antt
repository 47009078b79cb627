-- give_back, give_back_all
pub mod Closings
-- end_of_job, end_of_task
pub mod Ends
