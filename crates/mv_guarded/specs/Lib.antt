-- what a caller holds and keeps to by its own log, and what volumes have
pub mod Guarded
