pub mod Limits
pub mod Words
pub mod Sizes
pub mod Operand
pub mod Statement
pub mod Kind
pub mod Misread
