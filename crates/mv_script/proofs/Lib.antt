-- words and numbers
pub mod Good
-- one more statement
pub mod Progresses
pub mod Told
pub mod Costs
pub mod Behind
pub mod Valid
-- the pass, and the first fault
pub mod Lines
pub mod Lowest
-- the law that scripts are sound
pub mod Sounds
-- the law that costs suffice
pub mod Suffices
-- the law that the text of answers determines them
pub mod NumbersBack
pub mod AnswersBack
pub mod TextsBack
-- the law on the answers to tries
pub mod Tries
-- the law on the answers to calls on a table
pub mod Cutting
pub mod Refusals
pub mod HandedOut
-- rows worked by hand: texts, and runs
pub mod Rows
pub mod RunRows
