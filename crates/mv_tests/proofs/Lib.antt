-- for the tests: tasks in a queue
pub mod Rings
