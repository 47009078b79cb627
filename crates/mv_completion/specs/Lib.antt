-- the configuration, and what each task has done
pub mod Told
