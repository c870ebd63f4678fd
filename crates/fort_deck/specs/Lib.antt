pub mod Thefts
pub mod Views
pub mod Decks
pub mod Calls
pub mod Dealt
pub mod Resting
