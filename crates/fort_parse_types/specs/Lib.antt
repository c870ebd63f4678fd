pub mod Types
pub mod Longest
