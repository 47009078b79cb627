pub mod Limits
pub mod Sentence
pub mod Quote
pub mod Held
pub mod Deck
pub mod Script
