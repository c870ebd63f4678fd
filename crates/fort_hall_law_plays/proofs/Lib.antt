pub mod Worlds
pub mod Growth
pub mod Answered
pub mod Attempts
pub mod Good
pub mod Histories
pub mod Plays
pub mod Worked
