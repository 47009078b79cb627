-- Proofs of the laws of src/laws.rt, in the order in which to read them. The words are those of mv_plan's proofs (its Lib), and:
--
-- timely   a history that follows the plan and has no early settle (NextEvents)
-- enabled  an event of a task that the machine admits, and by which no wait ends too soon (NextEvents)
-- reached  what the entries so far have brought about, so that what is waited for comes: jobs that were entered, ends after purges,
--          initiators that were dismissed (reached)
-- status   an initiator is enabled, waits for a latch, rests until the scheduler releases it, or has ended (InitiatorStatus)

-- a history and one entry more
pub mod Longer
-- an event that is possible next
pub mod NextEvents
-- invariants
pub mod reached
-- what the machine admits
pub mod Admitted
-- initiators, and those that wait for a latch
pub mod InitiatorStatus
pub mod LatchWaiters
-- the scheduler and the writer
pub mod SchedulerAndWriter
-- timely histories reach runs; no run has an early settle
pub mod Results
pub mod EarlySettles
-- the laws
pub mod Undoomed
-- deadlocks: a history with an early settle, and one of a deck that is not sound
pub mod Rows
pub mod CrossedRows
