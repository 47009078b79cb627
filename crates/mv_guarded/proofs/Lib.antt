-- what a rule says of each entry
pub mod Rules
-- what an obtain, a read and a write leave of a task that holds a latch
pub mod Holding
-- what a log keeps over calls that neither write nor purge
pub mod Quiet
-- what is gathered from entries
pub mod Gathered
-- a task that keeps a rule and the lock discipline
pub mod Careful
-- what a volume has
pub mod Volumes
-- sections_see_one_number
pub mod Reading
-- exclusive_latches_have_one_holder
pub mod Exclusion
-- released_latches_hold_up_no_caller
pub mod Finishing
-- an invariant that a section breaks and restores
pub mod LockInvariant
-- worked rows
pub mod Rows
