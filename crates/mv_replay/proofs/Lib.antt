-- the first wrong entry, and how far a text has been judged
pub mod Wrong
pub mod Courses
-- judge_journal, legal_lists_are_done
pub mod Converted
-- the length of a text: clause within of legal_lists_are_done
pub mod EventLengths
pub mod Lengths
-- read_legal and judge_journal: the report of a command
pub mod Reported
-- no_text_asks_for_two_endings, and how a command has to end
pub mod Endings
