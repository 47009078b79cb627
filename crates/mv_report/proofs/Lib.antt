-- write_report, with one more job
pub mod Jobs
-- outcome_of, with one more job
pub mod Lengths
pub mod Steps
pub mod Totals
-- ends_go_by_accepted_codes
pub mod Ends
-- sound_decks_have_reports
pub mod EndCodes
pub mod SoundDecks
-- reports_tell_the_ends
pub mod Counts
pub mod ReadBack
-- worked rows
pub mod Rows
