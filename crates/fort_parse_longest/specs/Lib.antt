pub mod Parts
pub mod Longest
