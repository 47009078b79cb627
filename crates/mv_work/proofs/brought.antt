-- What the initiators of a run bring back: the laws of src/laws.rt, in the order in which to read them.

-- whoever forgets the records has the plan's programs: initiators_note_what_they_do
pub mod Forgetting
-- calls that pause nowhere; what programs bring, by what their caller was told
pub mod Quiet
pub mod Brings
-- what an initiator brings back by what it heard: of a job's steps, of its rounds
pub mod StepNotes
pub mod Rounds
-- all initiators together: runs_record_each_job
pub mod Histories
pub mod OneRecord
pub mod Recorded
-- the lines of notes: lines_recorded, records_give_the_lines
pub mod NoteLines
pub mod Lines
-- volumes_of, spool_run
pub mod Outcomes
-- worked rows
pub mod Rows
