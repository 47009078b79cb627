-- lists of requests: what filters keep, what a list contains, who holds a latch
pub mod Splits
pub mod Members
pub mod Joined
-- what is newly granted, by a release and by a purge of one list (`remove`) and of all (`remove_from_all`)
pub mod Grants
pub mod Purges
-- the invariant of a latch set: the quotas, the numbers that occur once, the room of each list
pub mod Quotas
pub mod InMemory
-- the laws on who holds a latch: `exclusive_stands_alone`, `arrival_grants`, `purged_hold_nothing`
pub mod Holders
-- the law `granted_stay`, by what one operation does to each list
pub mod Changes
-- the law `other_ids_stay_new`
pub mod Numbers
