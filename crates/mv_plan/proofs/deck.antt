-- Decks and the configuration.
pub mod Planned
pub mod Ends
pub mod Setup
pub use Planned.*
pub use Ends.*
pub use Setup.*
