-- last_below, push_earlier
pub mod Earlier
-- push_by_task
pub mod TaskCounts
-- judge_journal, push_illegal_at, refused_text
pub mod JournalFacts
-- read_and_explain and explain: what was read and written, and how it ends
pub mod Endings
-- an_input_has_one_explanation
pub mod OneExplanation
-- read_and_run and explain_run: what was read and written
pub mod Runs
