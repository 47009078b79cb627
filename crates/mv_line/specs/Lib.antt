pub mod Byte
pub mod Line
pub mod Field
pub mod Part
pub mod Number
pub mod Fault
