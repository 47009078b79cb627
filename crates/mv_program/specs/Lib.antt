pub mod Command
pub mod Status
pub mod Texts
pub mod Program
