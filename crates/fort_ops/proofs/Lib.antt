pub mod Words
pub mod Ranks
