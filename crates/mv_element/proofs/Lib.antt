-- when two replies are the same (`is_same`), and the state of a phase
pub mod States
