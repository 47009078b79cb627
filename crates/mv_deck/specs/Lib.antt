pub mod EndCode
pub mod Line
pub mod Operand
pub mod Statement
pub mod Form
pub mod Deck
pub mod Held
pub mod Weight
pub mod Fault
pub mod Sound
pub mod Load
pub mod Names
pub mod Reading
-- the words of all of these, from one place
pub mod Prelude
