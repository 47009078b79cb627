-- The calls of the services as programs, and what a log says of the machine.
-- what a task keeps, what a call is, and when one was made
pub mod Refusal
pub mod Keeping
pub mod Program
pub mod Rest
pub mod Made
pub mod Runs
-- the calls, one by one
pub mod Waits
pub mod Posts
pub mod Pauses
pub mod LatchCalls
pub mod Endings
pub mod Table
pub mod Events
pub mod Services
-- what a log says of the machine
pub mod Behind
pub mod Known
pub mod Sections
pub mod Exits
-- to which call of its caller each entry belongs
pub mod Numbers
pub mod Counters
pub mod OneCall
pub mod Judge
pub mod CallsReplay
-- the words of all of these, from one place
pub mod Prelude
