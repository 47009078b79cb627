-- the entries of one call have one number
pub mod Stays
pub mod Calls
pub mod Folds
pub mod OneCalls
-- one number after the other
pub mod Kept
-- the first numbers of a history
pub mod Prefixes
-- the posts that may still follow
pub mod Pending
-- an entry counted, and judged, behind others
pub mod Counted
pub mod Judged
-- numbers that are another's
pub mod Refused
-- worked rows
pub mod Rows
