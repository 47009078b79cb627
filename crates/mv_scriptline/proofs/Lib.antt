-- words and numbers
pub mod Operands
pub mod Lists
pub mod Fields
pub mod Leading
