-- Proofs of the eight laws of src/laws.rt, in the order in which to read them. The words:
--
-- point    the place of a task in its program (points/Points): the event that the task makes there and, by the reply, the next point
-- move     an entry of a history, with the step of its caller from point to point (walks/Walks)
-- walk     a history, entry by entry, with the points of all tasks
-- moment   the machine, the points and the entries so far, after a prefix of a walk in which no task is lost, with all that is
--          known then (places/Moments)
-- lost     a task whose wait ended too soon, or that got a reply that nothing foresees (Astray); it makes no further move
-- row      how one initiator, its idle block, its element and the scheduler fit together (standing/Initiators)
-- ledger   the codes that were released, given and are in elements, and the jobs that initiators were named (places/Deeds)
-- code     what the scheduler releases: 0 closes an initiator, another names a job; its mark says that the job is not to be run
-- end      the code that a job ends with, posted to its own block, and by that block's exit to the scheduler's and the writer's
-- done     the block of a job that is posted first; it is extended before the job is released, so that its exit posts the other two
-- hand     the latches that a running job holds; grip: what is known of an initiator's requests by its point (latches/Hands)
-- due      what a running job has still to add to a volume (volumes/Totals)
-- landing  the points that may follow an initiator's event (points/Points)
-- sound    as it should be, by the task's own steps only; foreseen: not Astray, by what the other tasks do
--
-- Each layer is a folder, or one file; the file beside a folder passes on the words of its modules, and later layers take them from there.

-- the words of other crates, passed on
pub mod Words
-- lists, tables and sums
pub mod lists
-- what the deck and the configuration state
pub mod deck
-- each task by itself
pub mod points
-- all tasks together, entry by entry
pub mod walks
-- what blocks and elements hold
pub mod standing
-- the place of each job
pub mod places
-- codes and ends
pub mod ends
-- latches
pub mod latches
-- volumes
pub mod volumes
-- requestors; no reply at latches and volumes leads astray
pub mod serving
-- events and budgets
pub mod budgets
-- the laws
pub mod results
-- the code of src/
pub mod code
-- runs that are computed
pub mod examples
