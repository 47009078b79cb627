-- numbers, digits, fields and the parts of a text
pub mod Fields
pub mod Parts
-- what is written reads back: the law `text_determines_journal`
pub mod OneLine
pub mod ConfigNumbers
pub mod CallNumbers
pub mod LinesAgain
-- what is read strictly is written so: the law `texts_without_fault_are_journals`
pub mod LinesTaken
pub mod TextsTaken
-- a text states a journal exactly if it is the text of it: the law `texts_state_their_journals`
pub mod Stated
-- entries that are numbered and written one by one, and the text of a history in pieces
pub mod OnePass
pub mod WrittenSoFar
-- legal lists are in range: the law `legal_lists_have_texts`, and that a history's text reads back
pub mod LegalRanges
-- the one pass of `read_head` and of the reader of entries
pub mod Heads
pub mod Passes
pub mod ReadOn
-- the first fault is the lowest: the law `first_fault_is_lowest`
pub mod Lowest
-- worked rows
pub mod Rows
