-- numbers and digits, and the words in front of a text
pub mod Numbers
pub mod Digits
pub mod Leading
pub mod Front
-- the table that `put_two` takes digits from
pub mod Pairs
-- what is written reads back: the law `text_determines_journal` of mv_entrytext
pub mod Again
pub mod OneCallNumber
pub mod EntryAgain
-- what is read strictly is written so: the law `texts_without_fault_are_journals` of mv_entrytext
pub mod Taken
pub mod KindsTaken
