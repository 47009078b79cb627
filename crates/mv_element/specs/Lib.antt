pub mod Code
pub mod Element
pub mod Table
