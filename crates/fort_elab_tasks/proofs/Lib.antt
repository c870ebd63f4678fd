pub mod Done
pub mod Reversed
