pub mod Commons
pub mod Clashes
pub mod Choices
pub mod Judges
