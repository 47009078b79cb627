-- which histories can be continued to a run
pub mod Progress
