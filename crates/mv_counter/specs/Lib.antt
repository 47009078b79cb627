-- the configuration, what each task keeps to, and what follows
pub mod Counter
